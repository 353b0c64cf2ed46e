use Rattle.std.proofs.Common.{◌≡◌, ◌∷◌, [], rules}
use Rattle.cr_scalar.specs.Host.{Host as Means, host}
use Rattle.cr_tally.proofs.Steps.{count_then}
use Rattle.cr_tally.proofs.tally.count_with.Goals as goal

pub returns : goal.returns
returns g c =
    let by : Means = host (g.F.Functions.function_of c.args.functions.now) (g.F.Functions.scalar c.args.functions.now) (g.F.Functions.step c.args.functions.now) (g.F.Functions.finish c.args.functions.now) (g.F.Functions.order_of c.args.functions.now) in
    let rows : c.push-2.new.self.items ≡ (c.args.count ∷ []) ∷ (c.in-Some.more ∷ []) ∷ [] = search rules in
    count_then by c.args.kind.now c.args.rows.items c.args.count c.in-Some.more c.push-2.new.self.items c.given-2.result c.requires.count (c.in_ok-more.ensures c.in-Some.more c.in-Some.is) rows c.given-2.ensures
