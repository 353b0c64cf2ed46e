use Rattle.std.proofs.Common.{◌≡◌, ◌∙◌, ◌+◌, ◌++◌, ◌∷◌, List, [], ap, map, subst, sym, take}
use Rattle.std.proofs.lemmas.List.{map-append, take_all, take_more}
use Rattle.cr_value.specs.declared.value.Value.{Value}
use Rattle.cr_value.proofs.Fields.{some_is}
use Rattle.cr_scalar.specs.Host.{Host as Means, host}
use Rattle.cr_tally.specs.declared.show.Call.{Call}
use Rattle.cr_tally.specs.declared.tally.Tally.{Tally}
use Rattle.cr_tally.specs.Tallies.{TellAll, Tells}
use Rattle.cr_tally.proofs.Lists.{all-append}
use Rattle.cr_tally.proofs.tallies.tallies_of.Goals as goal

pub loop-call-preserved : goal.loop-call-preserved
loop-call-preserved g c =
    let by : Means = host (g.F.Functions.function_of c.args.functions.now) (g.F.Functions.scalar c.args.functions.now) (g.F.Functions.step c.args.functions.now) (g.F.Functions.finish c.args.functions.now) (g.F.Functions.order_of c.args.functions.now) in
    let calls = c.args.calls.now in
    let i = c.loop-call.call-index in
    let call = c.call-item.result in
    let more = take_more calls i call c.loop-call-test.true ∙ ap (λ (x : Call). take i calls ++ x ∷ []) (sym c.call-item.is) in
    let one = c.in_ok-tally.ensures c.in-Some.tally c.in-Some.is in
    subst (λ (ts : List Tally). (map (λ t. t.call) ts ≡ take (i + 1) calls) × ((params : List Value) → TellAll by params [] ts)) (sym c.in_ok-push.ensures.items) (
      map-append (λ (t : Tally). t.call) c.loop-call.out.items (c.in-Some.tally ∷ []) ∙ ap (λ (cs : List Call). cs ++ c.in-Some.tally.call ∷ []) c.loop-call.invariant.0 ∙ ap (λ (x : Call). take i calls ++ x ∷ []) one.0 ∙ sym more,
      λ params. all-append (Tells by params []) c.loop-call.out.items (c.in-Some.tally ∷ []) (c.loop-call.invariant.1 params) (one.1 params, tt),
    )

pub returns : goal.returns
returns g c x is =
    let by : Means = host (g.F.Functions.function_of c.args.functions.now) (g.F.Functions.scalar c.args.functions.now) (g.F.Functions.step c.args.functions.now) (g.F.Functions.finish c.args.functions.now) (g.F.Functions.order_of c.args.functions.now) in
    subst (λ (ts : List Tally). (map (λ t. t.call) ts ≡ c.args.calls.now) × ((params : List Value) → TellAll by params [] ts)) (ap (λ v. v.items) (some_is _ x is))
    (c.loop-call.invariant.0 ∙ take_all c.loop-call.call-index c.args.calls.now c.loop-call-test.false, c.loop-call.invariant.1)
