use Rattle.std.proofs.Common.{rules, ◌∙◌, ℕ, List, Option, Some, Err, pos, true, refl, sym, ap, to_z, of_z, to_z-of_z, w64, SFits}
use Rattle.cr_lattice.specs.declared.change.Change.{Change}
use Rattle.cr_cells.specs.Holding.{Holding}
use Rattle.cr_cells.specs.Marks.{Mark, seen_of}
use Rattle.cr_cells.specs.declared.store.StoreFault.TheVariants.{Refused}
use Rattle.cr_world.specs.declared.refusal.Refusal.TheVariants as refusal
use Rattle.cr_world.specs.State.{State}
use Rattle.cr_world.specs.Takings.{at_once, changes_above, seen_at}
use Rattle.cr_script.specs.Speaking.{closures, host_under}
use Rattle.cr_session.specs.Sessions.{clean, honest, standing}
use Rattle.cr_session.proofs.Pulls.{pull_stopped, pull_taken, stands_still}
use Rattle.cr_session.proofs.Takings.{not_told_at_once, tells_at_once, unless_none, unless_some}
use Rattle.cr_session.proofs.session.Session.pull_since.Goals as goal

more : State → Holding → List Change
more st from = changes_above from (seen_at st from)

mark : Holding → Option Mark
mark from = Some (from.site, from.version)

pub returns-in-Err-clause-pulls : goal.returns-in-Err-clause-pulls
unfolding more mark
returns-in-Err-clause-pulls g c =
    let at = standing g.C.Cells.holding c.args.self.now in
    let version = (g.D.Cells.holding c.args.peer.now.0).version in
    pull_stopped (host_under (closures (g.G.Guarding.allows c.args.guard.now) (g.G.Guarding.refuses c.args.guard.now)) (g.G.Guarding.rules c.args.guard.now)) true more mark mark (honest g.C.Cells.is_honest) (clean g.C.Cells.is_clean) (standing g.C.Cells.holding) (honest g.D.Cells.is_honest) (clean g.D.Cells.is_clean) (standing g.D.Cells.holding)
    c.args.self.now c.args.peer.now c.in-Err.refusal
    (λ own theirs. ap (λ (site : List ℕ). at_once at (Some (site, version))) (sym (c.site_id-site.ensures theirs)) ∙ unless_some _ _ (c.in-Err.ensures.told version own))

pub returns-clause-pulls : goal.returns-clause-pulls
unfolding more mark
returns-clause-pulls g c =
    let at = standing g.C.Cells.holding c.args.self.now in
    let old = g.D.Cells.holding c.args.peer.now.0 in
    let fits : SFits w64 c.db_version-version.result = search rules in
    let seen_fits : SFits w64 c.in-Ok.seen = search rules in
    pull_taken (host_under (closures (g.G.Guarding.allows c.args.guard.now) (g.G.Guarding.refuses c.args.guard.now)) (g.G.Guarding.rules c.args.guard.now)) true more mark mark (honest g.C.Cells.is_honest) (clean g.C.Cells.is_clean) (standing g.C.Cells.holding) (honest g.D.Cells.is_honest) (clean g.D.Cells.is_clean) (standing g.D.Cells.holding)
    c.args.self.now c.args.peer.now c.seen.new.self
    (record {
      was_honest = c.seen.ensures.device.was_honest;
      was_clean = c.seen.ensures.device.was_clean;
      lasts = λ honest_now was. c.in-Ok.ensures.device.stays_clean honest_now was;
      same = λ clean_now. stands_still g.C.Cells.holding c.args.self.now c.seen.new.self (c.in-Ok.ensures.reads clean_now).same c.seen.ensures.pending;
    })
    c.changes_above.new.self
    (record {
      was_honest = c.changes_above.ensures.device.was_honest;
      was_clean = c.changes_above.ensures.device.was_clean;
      lasts = λ honest_now was. c.in-Ok-changes_above.ensures.device.stays_clean honest_now was;
      same = λ clean_now. stands_still g.D.Cells.holding c.args.peer.now c.changes_above.new.self (c.in-Ok-changes_above.ensures.reads clean_now).same c.changes_above.ensures.pending;
    })
    (λ own theirs. ap (λ (site : List ℕ). at_once at (Some (site, old.version))) (sym (c.site_id-site.ensures theirs)) ∙ unless_none _ _ (c.in_default.ensures.told old.version own))
    c.deref.result.now (Some (c.site_id-site.result, to_z w64 (of_z w64 c.db_version-version.result)))
    (λ own theirs. c.deref.ensures.value ∙ (c.in-Ok-changes_above.ensures.reads theirs).answers
    ∙ ap (changes_above old) (to_z-of_z seen_fits ∙ (c.in-Ok.ensures.reads own).answers ∙ ap (seen_of (g.C.Cells.holding c.args.self.now.0).marks) (c.site_id-site.ensures (c.changes_above.ensures.device.was_clean theirs))))
    (λ theirs i. Some (
      c.site_id-site.ensures (c.changes_above.ensures.device.was_clean theirs) i,
      (to_z-of_z fits ∙ c.db_version-version.ensures theirs ∙ ap (λ (h : Holding). h.version) (c.in-Ok-changes_above.ensures.reads theirs).same) i,
    ))
    (λ own. unless_none _ _ (c.in_default.ensures.told (to_z w64 (of_z w64 c.db_version-version.result)) own)) refl c.take_all.result c.take_all.new.self c.take_all.ensures.takes

pub returns-in-Err-clause-at_once : goal.returns-in-Err-clause-at_once
returns-in-Err-clause-at_once g c =
    let at = standing g.C.Cells.holding c.args.self.now in
    λ own theirs. tells_at_once _ c.in-Err.refusal c.args.self.now (ap (λ (site : List ℕ). at_once at (Some (site, pos 0))) (sym (c.site_id-site.ensures theirs)) ∙ unless_some _ _ (c.in-Err.ensures.told (pos 0) own))

pub returns-in-Err-seen-clause-at_once : goal.returns-in-Err-seen-clause-at_once
returns-in-Err-seen-clause-at_once g c =
    let at = standing g.C.Cells.holding c.args.self.now in
    λ own theirs. not_told_at_once _ c.args.self.now (Err c.from.result) c.seen.new.self (ap (λ (site : List ℕ). at_once at (Some (site, pos 0))) (sym (c.site_id-site.ensures theirs)) ∙ unless_none _ _ (c.in_default.ensures.told (pos 0) own))

pub returns-in-Err-changes_above-clause-at_once : goal.returns-in-Err-changes_above-clause-at_once
returns-in-Err-changes_above-clause-at_once g c =
    let at = standing g.C.Cells.holding c.args.self.now in
    λ own theirs. not_told_at_once _ c.args.self.now (Err c.from-in-Err-changes_above.result) c.seen.new.self (ap (λ (site : List ℕ). at_once at (Some (site, pos 0))) (sym (c.site_id-site.ensures theirs)) ∙ unless_none _ _ (c.in_default.ensures.told (pos 0) own))

pub returns-then-version-lt0-clause-at_once : goal.returns-then-version-lt0-clause-at_once
returns-then-version-lt0-clause-at_once g c =
    let at = standing g.C.Cells.holding c.args.self.now in
    λ own theirs. not_told_at_once _ c.args.self.now (Err (refusal.Store Refused)) c.seen.new.self (ap (λ (site : List ℕ). at_once at (Some (site, pos 0))) (sym (c.site_id-site.ensures theirs)) ∙ unless_none _ _ (c.in_default.ensures.told (pos 0) own))

pub returns-clause-at_once : goal.returns-clause-at_once
returns-clause-at_once g c =
    let at = standing g.C.Cells.holding c.args.self.now in
    λ own theirs. not_told_at_once _ c.args.self.now c.take_all.result c.take_all.new.self (ap (λ (site : List ℕ). at_once at (Some (site, pos 0))) (sym (c.site_id-site.ensures theirs)) ∙ unless_none _ _ (c.in_default.ensures.told (pos 0) own))
