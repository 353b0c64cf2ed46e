use Rattle.cr_guard.specs.Guard.{asked}
use Rattle.cr_answer.proofs.Steps.{by_catalog}
use Rattle.cr_answer.proofs.allowing.resolved_seen.Goals as goal

pub returns : goal.returns
returns g c =
    by_catalog (g.F.Functions.function_of c.args.functions.now) (g.F.Functions.names_function c.args.functions.now) (g.F.Functions.order_of c.args.functions.now)
    (asked (g.G.Guarding.rules c.args.guard.now) (g.G.Guarding.allows c.args.guard.now))
    c.args.snapshot.now c.args.statement.now c.in_ok-catalog.catalog c.resolved.result c.in_ok-catalog.ensures c.resolved.ensures
