use Rattle.std.proofs.Common.{◌≡◌, ◌∙◌, rules, Ok, ap, sym, subst, map}
use Rattle.cr_scalar.specs.Meaning.{FaultsAs, byte_limit}
use Rattle.cr_scalar.specs.Host.{host}
use Rattle.cr_scalar.specs.Functions.{all_of}
use Rattle.cr_expr.specs.Setting.{setting, over}
use Rattle.cr_expr.specs.Eval.{of_node, meaning, each, argument_rows}
use Rattle.cr_expr.proofs.Loops.{row_next, row_fails}
use Rattle.cr_expr.proofs.Nodes.{between_from, in_from, case_fails, case_found, case_else, call_from, host_from, aggregate_from}
use Rattle.cr_expr.proofs.eval.+eval.Goals as goal

pub eval_node-returns-in-Between : goal.eval_node-returns-in-Between
eval_node-returns-in-Between g t c =
    between_from (setting byte_limit (host (g.F.Functions.function_of c.args.functions.now) (g.F.Functions.scalar c.args.functions.now) (g.F.Functions.step c.args.functions.now) (g.F.Functions.finish c.args.functions.now) (g.F.Functions.order_of c.args.functions.now)) c.args.given.now) c.args.expr.now
    c.in-Between.is_negated c.in-Between.low_meeting c.in-Between.high_meeting c.in-Between.operand c.in-Between.low c.in-Between.high
    c.get-in-Between.result.now c.get-in-Between-2.result.now c.get-in-Between-3.result.now
    c.in_ok-operand-in-Between.operand c.in_ok-low-in-Between.low c.get-in-Between-4.result.now c.get-in-Between-5.result.now c.eval_below.result
    c.in-Between.is c.get-in-Between.ensures c.get-in-Between-2.ensures c.get-in-Between-3.ensures c.get-in-Between-4.ensures c.get-in-Between-5.ensures
    c.in_ok-operand-in-Between.ensures c.in_ok-low-in-Between.ensures c.eval_below.ensures

pub eval_node-returns-in-In : goal.eval_node-returns-in-In
eval_node-returns-in-In g t c =
    in_from (setting byte_limit (host (g.F.Functions.function_of c.args.functions.now) (g.F.Functions.scalar c.args.functions.now) (g.F.Functions.step c.args.functions.now) (g.F.Functions.finish c.args.functions.now) (g.F.Functions.order_of c.args.functions.now)) c.args.given.now) c.args.expr.now
    c.in-In.is_negated c.in-In.meeting c.in-In.operand c.get-in-In.result.now c.in-In.items c.as_slice.result.now
    c.in_ok-operand-in-In.operand c.get-in-In-2.result.now c.eval_in.result
    c.in-In.is c.get-in-In.ensures c.as_slice.ensures c.get-in-In-2.ensures c.in_ok-operand-in-In.ensures c.eval_in.ensures

pub eval_node-returns-in_err-taken-in-Case : goal.eval_node-returns-in_err-taken-in-Case
eval_node-returns-in_err-taken-in-Case g t c =
    let why : FaultsAs (of_node (setting byte_limit (host (g.F.Functions.function_of c.args.functions.now) (g.F.Functions.scalar c.args.functions.now) (g.F.Functions.step c.args.functions.now) (g.F.Functions.finish c.args.functions.now) (g.F.Functions.order_of c.args.functions.now)) c.args.given.now) c.args.expr.now) c.in_err-taken-in-Case.field-0.0 =
    case_fails (setting byte_limit (host (g.F.Functions.function_of c.args.functions.now) (g.F.Functions.scalar c.args.functions.now) (g.F.Functions.step c.args.functions.now) (g.F.Functions.finish c.args.functions.now) (g.F.Functions.order_of c.args.functions.now)) c.args.given.now) c.args.expr.now
    c.in-Case.operand c.in-Case.arms c.as_slice-in-Case.result.now c.in-Case.otherwise c.in_ok-operand-in-Case.operand c.in_err-taken-in-Case.field-0.0
    c.in-Case.is c.as_slice-in-Case.ensures c.in_ok-operand-in-Case.ensures c.in_err-taken-in-Case.ensures in
    search rules

pub eval_node-returns-in-Some : goal.eval_node-returns-in-Some
eval_node-returns-in-Some g t c =
    case_found (setting byte_limit (host (g.F.Functions.function_of c.args.functions.now) (g.F.Functions.scalar c.args.functions.now) (g.F.Functions.step c.args.functions.now) (g.F.Functions.finish c.args.functions.now) (g.F.Functions.order_of c.args.functions.now)) c.args.given.now) c.args.expr.now
    c.in-Case.operand c.in-Case.arms c.as_slice-in-Case.result.now c.in-Case.otherwise c.in_ok-operand-in-Case.operand c.in_ok-taken-in-Case.taken c.in-Some.value
    c.in-Case.is c.as_slice-in-Case.ensures c.in_ok-operand-in-Case.ensures c.in_ok-taken-in-Case.ensures c.in-Some.is

pub eval_node-returns-in-Case : goal.eval_node-returns-in-Case
eval_node-returns-in-Case g t c =
    case_else (setting byte_limit (host (g.F.Functions.function_of c.args.functions.now) (g.F.Functions.scalar c.args.functions.now) (g.F.Functions.step c.args.functions.now) (g.F.Functions.finish c.args.functions.now) (g.F.Functions.order_of c.args.functions.now)) c.args.given.now) c.args.expr.now
    c.in-Case.operand c.in-Case.arms c.as_slice-in-Case.result.now c.in-Case.otherwise c.in_ok-operand-in-Case.operand c.in_ok-taken-in-Case.taken c.eval_or_null.result
    c.in-Case.is c.as_slice-in-Case.ensures c.in_ok-operand-in-Case.ensures c.in_ok-taken-in-Case.ensures c.in-None.is c.eval_or_null.ensures

pub eval_node-returns-in-BuiltIn : goal.eval_node-returns-in-BuiltIn
eval_node-returns-in-BuiltIn g t c =
    call_from (setting byte_limit (host (g.F.Functions.function_of c.args.functions.now) (g.F.Functions.scalar c.args.functions.now) (g.F.Functions.step c.args.functions.now) (g.F.Functions.finish c.args.functions.now) (g.F.Functions.order_of c.args.functions.now)) c.args.given.now) c.args.expr.now
    c.in-BuiltIn.function c.in-BuiltIn.args c.as_slice-in-BuiltIn.result.now c.eval_call.result c.in-BuiltIn.is c.as_slice-in-BuiltIn.ensures c.eval_call.ensures

pub eval_node-returns-in-Host : goal.eval_node-returns-in-Host
eval_node-returns-in-Host g t c =
    host_from (setting byte_limit (host (g.F.Functions.function_of c.args.functions.now) (g.F.Functions.scalar c.args.functions.now) (g.F.Functions.step c.args.functions.now) (g.F.Functions.finish c.args.functions.now) (g.F.Functions.order_of c.args.functions.now)) c.args.given.now) c.args.expr.now
    c.in-Host.name c.in-Host.args c.as_slice-in-Host.result.now c.eval_host.result c.in-Host.is c.as_slice-in-Host.ensures c.eval_host.ensures

pub eval_node-returns : goal.eval_node-returns
eval_node-returns g t c =
    aggregate_from (setting byte_limit (host (g.F.Functions.function_of c.args.functions.now) (g.F.Functions.scalar c.args.functions.now) (g.F.Functions.step c.args.functions.now) (g.F.Functions.finish c.args.functions.now) (g.F.Functions.order_of c.args.functions.now)) c.args.given.now) c.args.expr.now
    c.in-Aggregate.kind c.in-Aggregate.args c.as_slice-in-Aggregate.result.now c.eval_aggregate.result c.in-Aggregate.is c.as_slice-in-Aggregate.ensures c.eval_aggregate.ensures

pub eval_aggregate-loop-row-preserved : goal.eval_aggregate-loop-row-preserved
eval_aggregate-loop-row-preserved g t c =
    let s = (setting byte_limit (host (g.F.Functions.function_of c.args.functions.now) (g.F.Functions.scalar c.args.functions.now) (g.F.Functions.step c.args.functions.now) (g.F.Functions.finish c.args.functions.now) (g.F.Functions.order_of c.args.functions.now)) c.args.given.now) in
    let one : all_of (each (map meaning c.args.args.now) (over s c.row-item.result)) ≡ Ok c.in_ok-values.values =
    ap (λ r. all_of (each (map meaning c.args.args.now) (over s r))) (sym c.as_slice.ensures) ∙ c.in_ok-values.ensures in
    let next = row_next s (map meaning c.args.args.now) c.args.given.now.group.now c.loop-row.row-index c.row-item.result c.in_ok-values.values c.loop-row.rows.items (argument_rows (map meaning c.args.args.now) s)
    c.loop-row-test.true c.row-item.is one c.loop-row.invariant in
    rw c.in_ok-push.ensures.items next

pub eval_aggregate-returns-in_err-values : goal.eval_aggregate-returns-in_err-values
eval_aggregate-returns-in_err-values g t c =
    let s = (setting byte_limit (host (g.F.Functions.function_of c.args.functions.now) (g.F.Functions.scalar c.args.functions.now) (g.F.Functions.step c.args.functions.now) (g.F.Functions.finish c.args.functions.now) (g.F.Functions.order_of c.args.functions.now)) c.args.given.now) in
    let one : FaultsAs (all_of (each (map meaning c.args.args.now) (over s c.row-item.result))) c.in_err-values.field-0.0 =
    subst (λ r. FaultsAs (all_of (each (map meaning c.args.args.now) (over s r))) c.in_err-values.field-0.0) c.as_slice.ensures c.in_err-values.ensures in
    let why : FaultsAs (argument_rows (map meaning c.args.args.now) s) c.in_err-values.field-0.0 =
    row_fails s (map meaning c.args.args.now) c.args.given.now.group.now c.loop-row.row-index c.row-item.result c.loop-row.rows.items (argument_rows (map meaning c.args.args.now) s)
    c.in_err-values.field-0.0 c.loop-row-test.true c.row-item.is one c.loop-row.invariant in
    search rules
