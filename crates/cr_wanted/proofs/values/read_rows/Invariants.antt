use Rattle.std.proofs.Common.{take}
use Rattle.std.specs.List.{AllByRecursion}
use Rattle.cr_value.specs.Packing.{IsValue}
use Rattle.cr_wanted.proofs.values.read_rows.Given as goal

abbrev pub invariant-loop-row : goal.invariant-loop-row
invariant-loop-row l = AllByRecursion (λ row. AllByRecursion IsValue row) (take l.row-index l.rows)
