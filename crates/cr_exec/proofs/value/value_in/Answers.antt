use Rattle.cr_scalar.specs.Host.{host}
use Rattle.cr_exec.proofs.Evaluated.{in_row, in_group}
use Rattle.cr_exec.proofs.value.value_in.Goals as goal

pub returns-in-Row : goal.returns-in-Row
returns-in-Row g c =
    in_row (host (g.F.Functions.function_of c.args.functions.now) (g.F.Functions.scalar c.args.functions.now) (g.F.Functions.step c.args.functions.now) (g.F.Functions.finish c.args.functions.now) (g.F.Functions.order_of c.args.functions.now)) c.args.params.now c.args.scope c.in-Row.row c.args.expr.now c.row_value.result c.in-Row.is c.row_value.ensures

pub returns-in-Group : goal.returns-in-Group
returns-in-Group g c =
    in_group (host (g.F.Functions.function_of c.args.functions.now) (g.F.Functions.scalar c.args.functions.now) (g.F.Functions.step c.args.functions.now) (g.F.Functions.finish c.args.functions.now) (g.F.Functions.order_of c.args.functions.now)) c.args.params.now c.args.scope c.in-Group.shown c.in-Group.members c.args.expr.now c.eval.result c.in-Group.is c.eval.ensures
