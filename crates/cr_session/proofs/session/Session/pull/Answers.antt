use Rattle.std.proofs.Common.{◌∙◌, ℕ, List, Option, None, Some, Err, false, pos, refl, sym, ap}
use Rattle.cr_lattice.specs.declared.change.Change.{Change}
use Rattle.cr_cells.specs.Holding.{Holding}
use Rattle.cr_cells.specs.Marks.{Mark}
use Rattle.cr_world.specs.State.{State}
use Rattle.cr_world.specs.Takings.{at_once, changes_above}
use Rattle.cr_script.specs.Speaking.{closures, host_under}
use Rattle.cr_session.specs.Sessions.{clean, honest, standing}
use Rattle.cr_session.proofs.Pulls.{pull_stopped, pull_taken, stands_still, stays_here}
use Rattle.cr_session.proofs.Takings.{not_told_at_once, tells_at_once, unless_none, unless_some, unmarked}
use Rattle.cr_session.proofs.session.Session.pull.Goals as goal

more : State → Holding → List Change
more st from = changes_above from (pos 0)

first : Holding → Option Mark
first from = Some (from.site, pos 0)

mark : Holding → Option Mark
mark from = None

pub returns-in-Err-clause-pulls : goal.returns-in-Err-clause-pulls
unfolding more first mark
returns-in-Err-clause-pulls g c =
    let at = standing g.C.Cells.holding c.args.self.now in
    pull_stopped (host_under (closures (g.G.Guarding.allows c.args.guard.now) (g.G.Guarding.refuses c.args.guard.now)) (g.G.Guarding.rules c.args.guard.now)) false more first mark (honest g.C.Cells.is_honest) (clean g.C.Cells.is_clean) (standing g.C.Cells.holding) (honest g.D.Cells.is_honest) (clean g.D.Cells.is_clean) (standing g.D.Cells.holding)
    c.args.self.now c.args.peer.now c.in-Err.refusal
    (λ own theirs. ap (λ (site : List ℕ). at_once at (Some (site, pos 0))) (sym (c.site_id.ensures theirs)) ∙ unless_some _ _ (c.in-Err.ensures.told (pos 0) own))

pub returns-in-Ok-clause-pulls : goal.returns-in-Ok-clause-pulls
unfolding more first mark
returns-in-Ok-clause-pulls g c =
    let at = standing g.C.Cells.holding c.args.self.now in
    pull_taken (host_under (closures (g.G.Guarding.allows c.args.guard.now) (g.G.Guarding.refuses c.args.guard.now)) (g.G.Guarding.rules c.args.guard.now)) false more first mark (honest g.C.Cells.is_honest) (clean g.C.Cells.is_clean) (standing g.C.Cells.holding) (honest g.D.Cells.is_honest) (clean g.D.Cells.is_clean) (standing g.D.Cells.holding)
    c.args.self.now c.args.peer.now c.args.self.now (stays_here _ _ _ c.args.self.now) c.changes_above.new.self
    (record {
      was_honest = c.changes_above.ensures.device.was_honest;
      was_clean = c.changes_above.ensures.device.was_clean;
      lasts = λ honest_now was. c.in-Ok.ensures.device.stays_clean honest_now was;
      same = λ clean_now. stands_still g.D.Cells.holding c.args.peer.now c.changes_above.new.self (c.in-Ok.ensures.reads clean_now).same c.changes_above.ensures.pending;
    })
    (λ own theirs. ap (λ (site : List ℕ). at_once at (Some (site, pos 0))) (sym (c.site_id.ensures theirs)) ∙ unless_none _ _ (c.in_default.ensures.told (pos 0) own))
    c.deref.result.now None (λ own theirs. c.deref.ensures.value ∙ (c.in-Ok.ensures.reads theirs).answers) (λ theirs i. None)
    (λ own. unmarked at (c.site_id.result, pos 0) (unless_none _ _ (c.in_default.ensures.told (pos 0) own))) refl c.take_all.result c.take_all.new.self c.take_all.ensures.takes

pub returns-in-Err-clause-at_once : goal.returns-in-Err-clause-at_once
returns-in-Err-clause-at_once g c =
    let at = standing g.C.Cells.holding c.args.self.now in
    λ own theirs. tells_at_once _ c.in-Err.refusal c.args.self.now (ap (λ (site : List ℕ). at_once at (Some (site, pos 0))) (sym (c.site_id.ensures theirs)) ∙ unless_some _ _ (c.in-Err.ensures.told (pos 0) own))

pub returns-in-Ok-clause-at_once : goal.returns-in-Ok-clause-at_once
returns-in-Ok-clause-at_once g c =
    let at = standing g.C.Cells.holding c.args.self.now in
    λ own theirs. not_told_at_once _ c.args.self.now c.take_all.result c.take_all.new.self (ap (λ (site : List ℕ). at_once at (Some (site, pos 0))) (sym (c.site_id.ensures theirs)) ∙ unless_none _ _ (c.in_default.ensures.told (pos 0) own))

pub returns-in-Err-changes_above-clause-at_once : goal.returns-in-Err-changes_above-clause-at_once
returns-in-Err-changes_above-clause-at_once g c =
    let at = standing g.C.Cells.holding c.args.self.now in
    λ own theirs. not_told_at_once _ c.args.self.now (Err c.from.result) c.args.self.now (ap (λ (site : List ℕ). at_once at (Some (site, pos 0))) (sym (c.site_id.ensures theirs)) ∙ unless_none _ _ (c.in_default.ensures.told (pos 0) own))
