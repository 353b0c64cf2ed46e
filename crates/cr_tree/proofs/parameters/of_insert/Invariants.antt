use Rattle.std.proofs.Common.{◌≡◌, max, drop}
use Rattle.cr_tree.specs.Parameters as spec
use Rattle.cr_tree.proofs.parameters.of_insert.Given as goal

abbrev pub invariant-loop-row : goal.invariant-loop-row
invariant-loop-row l = max l.greatest (spec.of_all (spec.of_all spec.of_expr) (drop l.row-index l.insert.rows)) ≡ spec.of_all (spec.of_all spec.of_expr) l.insert.rows
