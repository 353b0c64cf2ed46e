use Rattle.std.proofs.Common.{◌≡◌, ◌∙◌, [], List, ap, refl, subst, sym}
use Rattle.cr_value.specs.declared.value.Value.{Value}
use Rattle.cr_value.proofs.Fields.{some_is}
use Rattle.cr_scalar.specs.Host.{Host as Means, host}
use Rattle.cr_tally.specs.declared.tally.Tally.{Tally}
use Rattle.cr_tally.specs.Tallies.{Tells, gives}
use Rattle.cr_tally.proofs.tally.Tally.new.Goals as goal

pub returns-in-Some : goal.returns-in-Some
returns-in-Some g c x is =
    let by : Means = host (g.F.Functions.function_of c.args.functions.now) (g.F.Functions.scalar c.args.functions.now) (g.F.Functions.step c.args.functions.now) (g.F.Functions.finish c.args.functions.now) (g.F.Functions.order_of c.args.functions.now) in
    subst (λ (t : Tally). (t.call ≡ c.args.call) × ((params : List Value) → Tells by params [] t)) (some_is _ x is) (
      refl,
      λ params. record {
        built_in = sym c.is_built_in.ensures ∙ c.if-not-is_built_in.false;
        alone = c.are_alone.ensures c.if-not-are_alone.false;
        given = [];
        arguments = tt;
        value = ap (gives by c.args.call.kind.now) (sym c.new.ensures.items) ∙ c.in_ok-value.ensures c.in-Some.value c.in-Some.is;
      },
    )
