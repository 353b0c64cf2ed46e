use Rattle.std.proofs.Common.{◌∙◌, List, [], ap, map, subst}
use Rattle.cr_value.proofs.Fields.{some_is}
use Rattle.cr_scalar.specs.Host.{Host as Means, host}
use Rattle.cr_query.specs.Queries.{Shown as Seen}
use Rattle.cr_exec.specs.Answers.{IsMeant}
use Rattle.cr_exec.specs.Scopes.{there}
use Rattle.cr_exec.specs.Shows.{shown_of}
use Rattle.cr_meaning.specs.View.{plain}
use Rattle.cr_tally.specs.Over.{group_shows}
use Rattle.cr_tally.proofs.Overs.{shown_then}
use Rattle.cr_tally.proofs.over.shown_over.Goals as goal

pub returns-in-Ok : goal.returns-in-Ok
returns-in-Ok g c x is =
    let by : Means = host (g.F.Functions.function_of c.args.functions.now) (g.F.Functions.scalar c.args.functions.now) (g.F.Functions.step c.args.functions.now) (g.F.Functions.finish c.args.functions.now) (g.F.Functions.order_of c.args.functions.now) in
    let o = c.args.over.now in
    subst (λ (v : List Seen). IsMeant by c.args.params.now (λ m. group_shows m o (record { shown = c.args.values.now; members = [] })) v) (ap (λ v. map shown_of v.items) (some_is _ x is))
    (shown_then by c.args.params.now o (record { shown = c.args.values.now; members = [] }) c.as_slice-3.result.now c.as_slice-4.result.now (map shown_of c.new-shown.result.items) (map shown_of c.judge.new.out.items)
    (ap (map shown_of) c.new-shown.ensures.items)
    (ap (map there) c.as_slice-3.ensures.value ∙ c.in_ok-results.ensures ∙ ap (map plain) c.as_slice.ensures.value)
    (ap (map there) c.as_slice-4.ensures.value ∙ c.in_ok-keys.ensures ∙ ap (map plain) c.as_slice-2.ensures.value)
    c.in-Ok.ensures)
