use Rattle.std.proofs.Common.{◌≡◌, ◌∙◌, false, not, cond, [], ◌∷◌, ◌++◌, append-nil, map, ap, sym}
use Rattle.std.specs.Prelude.{filter}
use Rattle.cr_scalar.specs.Host.{Host, host}
use Rattle.cr_query.specs.Query.{all_true}
use Rattle.cr_query.specs.Plans.{is_false}
use Rattle.cr_meaning.specs.Meaning.{sized}
use Rattle.cr_exec.specs.Scopes.{there}
use Rattle.cr_touched.proofs.Parts.{filter-append}
use Rattle.cr_pushdown.specs.Passing.{passes}
use Rattle.cr_pushdown.proofs.passing.passing.Goals as goal

pub loop-row-preserved : goal.loop-row-preserved
loop-row-preserved g c =
    let by : Host = host (g.F.Functions.function_of c.args.functions.now) (g.F.Functions.scalar c.args.functions.now) (g.F.Functions.step c.args.functions.now) (g.F.Functions.finish c.args.functions.now) (g.F.Functions.order_of c.args.functions.now) in
    let p = passes by c.args.params.now c.args.terms.now in
    let row = c.in-Some.row in
    let here : p row ≡ false =
    (λ i. not (is_false (all_true (sized by c.args.params.now) (sym (ap (map there) c.as_slice-in-loop-row.ensures.value ∙ c.in_ok-ordered.ensures) i) (sym c.as_slice.ensures i))))
    ∙ sym c.in_ok-passes.ensures ∙ c.if-branch.false in
    c.loop-row.invariant
    ∙ sym (append-nil (filter p c.loop-row.yielded))
    ∙ ap (λ b. filter p c.loop-row.yielded ++ cond b (row ∷ []) []) (sym here)
    ∙ sym (filter-append p c.loop-row.yielded (row ∷ []))
