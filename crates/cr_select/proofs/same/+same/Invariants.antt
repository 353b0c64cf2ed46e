use Rattle.std.proofs.Common.{◌≡◌, map, drop}
use Rattle.cr_term.specs.Same.{same_all, same_arms, test}
use Rattle.cr_select.specs.Tests.{arm_test_of}
use Rattle.cr_select.proofs.same.+same.Given as goal

abbrev pub invariant-same_all-loop-expr : goal.invariant-same_all-loop-expr
invariant-same_all-loop-expr l = same_all (map test (drop l.expr-index l.left)) l.rest ≡ same_all (map test l.left) l.right

abbrev pub invariant-same_arms-loop-arm : goal.invariant-same_arms-loop-arm
invariant-same_arms-loop-arm l = same_arms (map arm_test_of (drop l.arm-index l.left)) l.rest ≡ same_arms (map arm_test_of l.left) l.right
