use Rattle.std.proofs.Common.{◌∙◌, ◌+◌, ◌++◌, ◌∷◌, List, [], ap, subst, sym, take}
use Rattle.std.specs.List.{AllZip}
use Rattle.std.proofs.lemmas.List.{take_more}
use Rattle.cr_value.specs.declared.value.Value.{Value}
use Rattle.cr_query.specs.Query.{Row}
use Rattle.cr_scalar.specs.Host.{Host as Means, host}
use Rattle.cr_tally.specs.Tallies.{AreArguments}
use Rattle.cr_tally.proofs.Lists.{zip-append}
use Rattle.cr_tally.proofs.tally.arguments_of.Goals as goal

pub loop-row-preserved : goal.loop-row-preserved
loop-row-preserved g c alone =
    let by : Means = host (g.F.Functions.function_of c.args.functions.now) (g.F.Functions.scalar c.args.functions.now) (g.F.Functions.step c.args.functions.now) (g.F.Functions.finish c.args.functions.now) (g.F.Functions.order_of c.args.functions.now) in
    let R : Row → List Value → Type 0 = AreArguments by c.args.params.now c.args.args.now in
    let rows = c.args.rows.now in
    let i = c.loop-row.row-index in
    let row = c.row-item.result in
    let more = take_more rows i row c.loop-row-test.true ∙ ap (λ (r : Row). take i rows ++ r ∷ []) (sym c.row-item.is) in
    subst (λ (vs : List (List Value)). AllZip R (take (i + 1) rows) vs) (sym c.in_ok-push.ensures.items)
    (subst (λ (rs : List Row). AllZip R rs (c.loop-row.out.items ++ c.in-Some.given ∷ [])) (sym more)
    (zip-append R (take i rows) c.loop-row.out.items row c.in-Some.given (c.loop-row.invariant alone)
    (subst (λ (r : Row). R r c.in-Some.given) c.as_slice.ensures (c.in_ok-given.ensures c.in-Some.given c.in-Some.is alone))))
