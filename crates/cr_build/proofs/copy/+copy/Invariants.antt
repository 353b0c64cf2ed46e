use Rattle.std.proofs.Common.{◌≡◌, take}
use Rattle.cr_build.proofs.copy.+copy.Given as goal

abbrev pub invariant-copy_all-loop-expr : goal.invariant-copy_all-loop-expr
invariant-copy_all-loop-expr l = l.copied.items ≡ take l.expr-index l.exprs

abbrev pub invariant-copy_arms-loop-arm : goal.invariant-copy_arms-loop-arm
invariant-copy_arms-loop-arm l = l.copied.items ≡ take l.arm-index l.arms
