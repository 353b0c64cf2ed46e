use Rattle.std.proofs.Common.{◌≡◌, map, drop, Some, false}
use Rattle.cr_scalar.specs.Meaning.{byte_limit}
use Rattle.cr_scalar.specs.Host.{host}
use Rattle.cr_scalar.specs.Functions.{all_of, first_value}
use Rattle.cr_expr.specs.Setting.{setting, over}
use Rattle.cr_expr.specs.Eval.{meaning, equals, in_of, taken, arm_of, each, argument_rows}
use Rattle.cr_expr.proofs.Loops.{collected}
use Rattle.cr_expr.proofs.eval.+eval.Given as goal

abbrev pub invariant-eval_all-loop-expr : goal.invariant-eval_all-loop-expr
invariant-eval_all-loop-expr g l =
    let s = setting byte_limit (host (g.F.Functions.function_of l.functions) (g.F.Functions.scalar l.functions) (g.F.Functions.step l.functions) (g.F.Functions.finish l.functions) (g.F.Functions.order_of l.functions)) l.given in
    collected l.operands.items (each (map meaning (drop l.expr-index l.exprs)) s) ≡ all_of (each (map meaning l.exprs) s)

abbrev pub invariant-eval_first-loop-expr : goal.invariant-eval_first-loop-expr
invariant-eval_first-loop-expr g l =
    let s = setting byte_limit (host (g.F.Functions.function_of l.functions) (g.F.Functions.scalar l.functions) (g.F.Functions.step l.functions) (g.F.Functions.finish l.functions) (g.F.Functions.order_of l.functions)) l.given in
    first_value (each (map meaning (drop l.expr-index l.exprs)) s) ≡ first_value (each (map meaning l.exprs) s)

abbrev pub invariant-eval_in-loop-item : goal.invariant-eval_in-loop-item
invariant-eval_in-loop-item g l =
    let s = setting byte_limit (host (g.F.Functions.function_of l.functions) (g.F.Functions.scalar l.functions) (g.F.Functions.step l.functions) (g.F.Functions.finish l.functions) (g.F.Functions.order_of l.functions)) l.given in
    in_of (equals s.host.order l.value l.meeting) l.so_far (each (map meaning (drop l.item-index l.items)) s)
    ≡ in_of (equals s.host.order l.value l.meeting) (Some false) (each (map meaning l.items) s)

abbrev pub invariant-eval_arms-loop-arm : goal.invariant-eval_arms-loop-arm
invariant-eval_arms-loop-arm g l =
    let s = setting byte_limit (host (g.F.Functions.function_of l.functions) (g.F.Functions.scalar l.functions) (g.F.Functions.step l.functions) (g.F.Functions.finish l.functions) (g.F.Functions.order_of l.functions)) l.given in
    taken s l.operand (map arm_of (drop l.arm-index l.arms)) ≡ taken s l.operand (map arm_of l.arms)

abbrev pub invariant-eval_aggregate-loop-row : goal.invariant-eval_aggregate-loop-row
invariant-eval_aggregate-loop-row g l =
    let s = setting byte_limit (host (g.F.Functions.function_of l.functions) (g.F.Functions.scalar l.functions) (g.F.Functions.step l.functions) (g.F.Functions.finish l.functions) (g.F.Functions.order_of l.functions)) l.given in
    collected l.rows.items (map (λ row. all_of (each (map meaning l.args) (over s row))) (drop l.row-index l.given.group.now)) ≡ argument_rows (map meaning l.args) s
