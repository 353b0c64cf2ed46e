use Rattle.cr_scalar.specs.Host.{host}
use Rattle.cr_exec.proofs.Evaluated.{row_quiet, row_loud}
use Rattle.cr_exec.proofs.value.row_value.Goals as goal

pub returns-in-Some : goal.returns-in-Some
returns-in-Some g c =
    row_quiet (host (g.F.Functions.function_of c.args.functions.now) (g.F.Functions.scalar c.args.functions.now) (g.F.Functions.step c.args.functions.now) (g.F.Functions.finish c.args.functions.now) (g.F.Functions.order_of c.args.functions.now)) c.args.params.now c.args.row.now c.args.expr.now c.in_ok-quiet.quiet c.in-Some.value c.made.result c.in_ok-quiet.ensures c.in-Some.is c.made.ensures

pub returns-in-None : goal.returns-in-None
returns-in-None g c =
    row_loud (host (g.F.Functions.function_of c.args.functions.now) (g.F.Functions.scalar c.args.functions.now) (g.F.Functions.step c.args.functions.now) (g.F.Functions.finish c.args.functions.now) (g.F.Functions.order_of c.args.functions.now)) c.args.params.now c.args.row.now c.args.expr.now c.in_ok-quiet.quiet c.eval.result c.in_ok-quiet.ensures c.in-None.is c.eval.ensures
