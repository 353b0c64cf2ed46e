use Rattle.std.proofs.Common.{◌≡◌, map, take}
use Rattle.cr_sound.specs.Sound.{stamp_of}
use Rattle.cr_sound.proofs.stamps.stamps_of.Given as goal

abbrev pub invariant-loop-cell : goal.invariant-loop-cell
invariant-loop-cell l = l.stamps.items ≡ map stamp_of (take l.cell-index l.cells)
