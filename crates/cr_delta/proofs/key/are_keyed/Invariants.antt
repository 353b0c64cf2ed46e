use Rattle.std.proofs.Common.{take}
use Rattle.std.specs.List.{AllByRecursion}
use Rattle.cr_delta.specs.Key.{HasKey}
use Rattle.cr_delta.proofs.key.are_keyed.Given as goal

abbrev pub invariant-loop-row : goal.invariant-loop-row
invariant-loop-row l = AllByRecursion (HasKey l.def) (take l.row-index l.rows)
