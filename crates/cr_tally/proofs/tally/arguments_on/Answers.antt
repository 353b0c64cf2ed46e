use Rattle.cr_scalar.specs.Host.{Host as Means, host}
use Rattle.cr_tally.proofs.Worths.{arguments_then}
use Rattle.cr_tally.proofs.tally.arguments_on.Goals as goal

pub returns : goal.returns
returns g c =
    let by : Means = host (g.F.Functions.function_of c.args.functions.now) (g.F.Functions.scalar c.args.functions.now) (g.F.Functions.step c.args.functions.now) (g.F.Functions.finish c.args.functions.now) (g.F.Functions.order_of c.args.functions.now) in
    arguments_then by c.args.params.now c.args.row.now c.args.args.now c.values_over.result c.values_over.ensures
