use Rattle.std.proofs.Common.{◌≡◌, max, drop}
use Rattle.cr_tree.specs.Parameters as spec
use Rattle.cr_tree.proofs.parameters.+parameters.Given as goal

abbrev pub invariant-of_exprs-loop-x : goal.invariant-of_exprs-loop-x
invariant-of_exprs-loop-x l = max l.greatest (spec.of_all spec.of_expr (drop l.x-index l.exprs)) ≡ spec.of_all spec.of_expr l.exprs

abbrev pub invariant-of_arms-loop-arm : goal.invariant-of_arms-loop-arm
invariant-of_arms-loop-arm l = max l.greatest (spec.of_all spec.of_arm (drop l.arm-index l.arms)) ≡ spec.of_all spec.of_arm l.arms
