use Rattle.std.proofs.Common.{◌≡◌, take}
use Rattle.cr_module.specs.Lawful.{first_row}
use Rattle.cr_module.proofs.reading.read_row.Given as goal

abbrev pub invariant-loop-at : goal.invariant-loop-at
invariant-loop-at g l = l.values.items ≡ take l.at (first_row (g.M.Module.left l.listed l.cursor))
