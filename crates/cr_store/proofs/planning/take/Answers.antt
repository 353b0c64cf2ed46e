use Rattle.std.proofs.Common.{◌≡◌, pos, length, ◌∙◌, ap, sym, SFits, w64, to_z, of_z, to_z-of_z, rules}
use Rattle.cr_store.specs.Plan.{is_there}
use Rattle.cr_store.proofs.PlanLemmas.{plan_stays, plan_grows}
use Rattle.cr_store.proofs.planning.take.Goals as goal

pub returns-then-not-is_new : goal.returns-then-not-is_new
returns-then-not-is_new c = λ ss cs of_row plan.
    plan_stays ss cs c.args.change.now c.args.version c.args.plan.now c.args.row.now of_row (sym c.is_new.ensures ∙ c.if-not-is_new.true) plan

pub returns : goal.returns
returns c = λ ss cs of_row plan.
    let fits : SFits w64 c.args.version = c.ranges.version in
    let fits_seq : SFits w64 c.next_place-seq.result = search rules in
    let place : c.next_place-seq.result ≡ pos (length c.args.plan.now.news.items) = c.next_place-seq.ensures ∙ ap (λ (ns : _). pos (length ns)) c.deref.ensures.value in
    let seq : to_z w64 (of_z w64 c.next_place-seq.result) ≡ pos (length c.args.plan.now.news.items) = to_z-of_z fits_seq ∙ place in
    plan_grows ss cs c.args.change.now c.args.version c.args.plan.now _ c.args.row.now _ of_row (sym c.is_new.ensures ∙ c.if-not-is_new.false)
    (λ i. record { change = c.in_ok-change.ensures i; version = to_z-of_z fits i; seq = seq i })
    (c.is_there-is_there.ensures ∙ ap (is_there c.args.row.now) c.in_ok-change.ensures) c.in_ok-push.ensures.items c.in_ok-push_removed.ensures plan
