use Rattle.std.proofs.Common.{◌≡◌, map, take}
use Rattle.cr_recent.specs.Notes.{key_of}
use Rattle.cr_recent.proofs.keys.keys_of.Given as goal

abbrev pub invariant-loop-change : goal.invariant-loop-change
invariant-loop-change l = l.keys.items ≡ map key_of (take l.change-index l.changes)
