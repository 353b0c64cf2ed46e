use Rattle.std.proofs.Common.{◌≡◌, ◌∷◌, [], rules}
use Rattle.cr_scalar.specs.Host.{Host as Means, host}
use Rattle.cr_tally.proofs.Steps.{value_then}
use Rattle.cr_tally.proofs.tally.value_with.Goals as goal

pub returns : goal.returns
returns g c =
    let by : Means = host (g.F.Functions.function_of c.args.functions.now) (g.F.Functions.scalar c.args.functions.now) (g.F.Functions.step c.args.functions.now) (g.F.Functions.finish c.args.functions.now) (g.F.Functions.order_of c.args.functions.now) in
    let rows : c.append.new.self.items ≡ (c.args.value ∷ []) ∷ c.args.rows.items = search rules in
    value_then by c.args.kind.now c.args.rows.items c.args.value c.append.new.self.items c.given.result c.requires.built_in c.requires.no_count rows c.given.ensures
