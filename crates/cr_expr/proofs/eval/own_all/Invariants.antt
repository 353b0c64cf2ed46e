use Rattle.std.proofs.Common.{◌≡◌}
use Rattle.cr_expr.proofs.eval.own_all.Given as goal

abbrev pub invariant-loop-operand : goal.invariant-loop-operand
invariant-loop-operand l = l.values.items ≡ l.yielded
