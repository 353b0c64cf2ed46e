use Rattle.cr_scalar.specs.Host.{host}
use Rattle.cr_wanted.proofs.Written.{brought_by}
use Rattle.cr_wanted.proofs.insert.inserted_rows.Goals as goal

pub returns : goal.returns
returns g c =
    brought_by (host (g.F.Functions.function_of c.args.functions.now) (g.F.Functions.scalar c.args.functions.now) (g.F.Functions.step c.args.functions.now) (g.F.Functions.finish c.args.functions.now) (g.F.Functions.order_of c.args.functions.now)) c.args.params.now c.args.columns.now c.args.insert.now (λ v. v.items) c.as_slice-places.result.now c.tuples_of-tuples.result.now c.as_slice-places.ensures c.tuples_of-tuples.ensures c.inserted_each.result c.inserted_each.ensures
