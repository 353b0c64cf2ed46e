use Rattle.std.proofs.Common.{subst, sym}
use Rattle.std.specs.List.{AllZip}
use Rattle.cr_scalar.specs.Host.{Host as Means, host}
use Rattle.cr_tally.specs.Tallies.{Step}
use Rattle.cr_tally.proofs.Lists.{zip-append}
use Rattle.cr_tally.proofs.tallies.with_rows.Goals as goal

pub loop-tally-preserved : goal.loop-tally-preserved
loop-tally-preserved g c =
    let by : Means = host (g.F.Functions.function_of c.args.functions.now) (g.F.Functions.scalar c.args.functions.now) (g.F.Functions.step c.args.functions.now) (g.F.Functions.finish c.args.functions.now) (g.F.Functions.order_of c.args.functions.now) in
    subst (AllZip (Step by c.args.params.now c.args.rows.now) _) (sym c.in_ok-push.ensures.items)
    (zip-append (Step by c.args.params.now c.args.rows.now) c.loop-tally.yielded c.loop-tally.out.items c.in-Some.tally c.in-Some-2.next c.loop-tally.invariant (c.in_ok-next.ensures c.in-Some-2.next c.in-Some-2.is))
