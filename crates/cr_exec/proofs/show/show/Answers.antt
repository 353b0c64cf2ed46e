use Rattle.std.proofs.Common.{map}
use Rattle.cr_scalar.specs.Host.{host}
use Rattle.cr_bags.specs.Bags.{each}
use Rattle.cr_query.specs.Query.{pair}
use Rattle.cr_exec.specs.Scopes.{in_scope, there}
use Rattle.cr_exec.specs.Shows.{shown_of}
use Rattle.cr_exec.proofs.Stages.{meant_after}
use Rattle.cr_exec.proofs.show.show.Goals as goal

pub returns : goal.returns
returns g c =
    let h = host (g.F.Functions.function_of c.args.functions.now) (g.F.Functions.scalar c.args.functions.now) (g.F.Functions.step c.args.functions.now) (g.F.Functions.finish c.args.functions.now) (g.F.Functions.order_of c.args.functions.now) in
    meant_after h c.args.params.now (λ m. each (in_scope m c.args.scope) (map there c.args.results.now)) c.in_ok-row.row (λ m. each (in_scope m c.args.scope) (map there c.args.keys.now)) c.in_ok-keys.keys
    (λ m. pair (each (in_scope m c.args.scope) (map there c.args.results.now)) (each (in_scope m c.args.scope) (map there c.args.keys.now))) (shown_of (record { row = c.in_ok-row.row; keys = c.in_ok-keys.keys }))
    (λ regard row keys i. pair (row i) (keys i)) c.in_ok-row.ensures c.in_ok-keys.ensures
