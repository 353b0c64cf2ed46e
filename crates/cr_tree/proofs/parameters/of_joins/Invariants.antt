use Rattle.std.proofs.Common.{◌≡◌, max, drop}
use Rattle.cr_tree.specs.Parameters as spec
use Rattle.cr_tree.proofs.parameters.of_joins.Given as goal

abbrev pub invariant-loop-join : goal.invariant-loop-join
invariant-loop-join l = max l.greatest (spec.of_all spec.of_join (drop l.join-index l.joins)) ≡ spec.of_all spec.of_join l.joins
