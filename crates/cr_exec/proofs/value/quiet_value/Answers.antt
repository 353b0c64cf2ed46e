use Rattle.std.proofs.Common.{None, sym, subst}
use Rattle.cr_term.specs.Terms.{plain}
use Rattle.cr_expr.specs.Setting.{setting}
use Rattle.cr_exec.specs.Values.{HasValue}
use Rattle.cr_scalar.specs.Host.{host}
use Rattle.cr_exec.proofs.Evaluated.{quiet_compare, quiet_null}
use Rattle.cr_exec.proofs.value.quiet_value.Goals as goal

pub returns-in_ok-holds-in-Compare : goal.returns-in_ok-holds-in-Compare
returns-in_ok-holds-in-Compare g c =
    let h = host (g.F.Functions.function_of c.args.functions.now) (g.F.Functions.scalar c.args.functions.now) (g.F.Functions.step c.args.functions.now) (g.F.Functions.finish c.args.functions.now) (g.F.Functions.order_of c.args.functions.now) in
    quiet_compare h c.args.given.now c.args.expr.now c.in-Compare.left c.get.result.now c.in-Compare.right c.get-in-Compare.result.now c.in-Compare.op c.in-Compare.meeting
    c.get-in-Compare-2.result.now c.get-in-Compare-3.result.now c.truth_value.result c.in_ok-holds-in-Compare.holds
    c.in-Compare.is c.get.ensures c.get-in-Compare.ensures (subst (HasValue plain (setting None h c.args.given.now) c.get.result.now) (sym c.get-in-Compare-2.ensures) (c.in-Some.ensures h))
    (subst (HasValue plain (setting None h c.args.given.now) c.get-in-Compare.result.now) (sym c.get-in-Compare-3.ensures) (c.in-Some-plain_value.ensures h)) c.in_ok-holds-in-Compare.ensures c.truth_value.ensures

pub returns-in-Some-plain_value-2 : goal.returns-in-Some-plain_value-2
returns-in-Some-plain_value-2 g c =
    let h = host (g.F.Functions.function_of c.args.functions.now) (g.F.Functions.scalar c.args.functions.now) (g.F.Functions.step c.args.functions.now) (g.F.Functions.finish c.args.functions.now) (g.F.Functions.order_of c.args.functions.now) in
    quiet_null h c.args.given.now c.args.expr.now c.in-Unary.operand c.get-in-Unary.result.now c.in-Unary.op c.in-Some-plain_value-2.value c.get-in-Unary-2.result.now c.null_test.result c.in-Some-null_wanted.is_null_wanted c.is_null.result
    c.in-Unary.is (sym c.in-Some-null_wanted.ensures) c.get-in-Unary.ensures (c.in-Some-plain_value-2.ensures h) c.get-in-Unary-2.ensures c.is_null.ensures c.null_test.ensures
