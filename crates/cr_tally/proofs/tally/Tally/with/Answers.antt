use Rattle.std.proofs.Common.{◌++◌, refl, subst}
use Rattle.cr_value.proofs.Fields.{some_is}
use Rattle.cr_scalar.specs.Host.{Host as Means, host}
use Rattle.cr_tally.specs.declared.tally.Tally.{Tally}
use Rattle.cr_tally.specs.Tallies.{AreArguments, Step}
use Rattle.cr_tally.proofs.Lists.{zips-append}
use Rattle.cr_tally.proofs.tally.Tally.with.Goals as goal

pub returns-in-Some-2 : goal.returns-in-Some-2
returns-in-Some-2 g c x is =
    let by : Means = host (g.F.Functions.function_of c.args.functions.now) (g.F.Functions.scalar c.args.functions.now) (g.F.Functions.step c.args.functions.now) (g.F.Functions.finish c.args.functions.now) (g.F.Functions.order_of c.args.functions.now) in
    let params = c.args.params.now in
    let args = c.args.self.call.args.now in
    let more = c.args.rows.now in
    let next = c.in_ok-value.ensures c.in-Some-2.value c.in-Some-2.is in
    subst (λ (t : Tally). Step by params more c.args.self t) (some_is _ x is)
    (record {
      same = refl;
      tells = λ rows tells. record {
        built_in = tells.built_in;
        alone = tells.alone;
        given = tells.given ++ c.in-Some.arguments.items;
        arguments = zips-append (AreArguments by params args) rows more tells.given c.in-Some.arguments.items tells.arguments (c.in_ok-arguments.ensures c.in-Some.arguments c.in-Some.is tells.alone);
        value = next tells.given tells.value;
      };
    })
