use Rattle.std.proofs.Common.{◌≡◌, ◌∙◌, List, Option, false, refl, sym, ap, subst, option_map}
use Rattle.std.specs.Prelude.{is_some}
use Rattle.cr_lattice.specs.declared.change.Change.{Change}
use Rattle.cr_term.specs.declared.query.Resolved.TheVariants as r
use Rattle.cr_fit.specs.Suited.{HasRelation}
use Rattle.cr_world.specs.State.{catalog}
use Rattle.cr_session.specs.Sessions.{SessionOf, standing}
use Rattle.cr_session.proofs.Making.{defined, markable, not_defined, outside, performs_marked}
use Rattle.cr_session.proofs.session.Session.mark_replicated.Goals.{in-Ok, in-Err-mark_crr+in-Rows-1, in-Err-mark_crr+in-Done-1}
use Rattle.cr_session.proofs.session.Session.mark_replicated.Goals as goal

pub mark_crr-requires : goal.mark_crr-requires
mark_crr-requires g c =
    let has = subst (λ (s : SessionOf g.row.C.Denot). g.C.Cells.is_clean s.0 → HasRelation (catalog (standing g.C.Cells.holding s)) c.args.mark.now.relation) (sym c.self.view_is) c.requires in
    λ clean. markable (g.C.Cells.holding c.self.inside.replica) c.args.mark.now.relation c.as_str.result.now (has clean) c.in_default.ensures c.in_default-check_defaults.ensures c.as_str.ensures.value

pub returns : goal.returns
returns g c = λ means params host.
    let pending : Option (List Change) = option_map (λ p. p.1) c.self.inside.pending in
    let none : is_some pending ≡ false = ap (λ (s : SessionOf g.row.C.Denot). is_some s.1) c.self.view_is ∙ sym c.in_transaction.ensures ∙ c.if-in_transaction.false in
    elim c.match-mark_crr.branch [
      | in-Ok w ↦ rw w.result-is (rw (← c.self.view_is) (outside means params host g.C.Cells.is_honest g.C.Cells.is_clean g.C.Cells.holding c.self.inside.replica c.mark_crr.new.self (r.MarkReplicated c.args.mark.now) _ pending none
          (defined means params host g.C.Cells.is_honest g.C.Cells.is_clean g.C.Cells.holding c.self.inside.replica c.mark_crr.new.self _ _ c.mark_crr.ensures.device.was_honest c.mark_crr.ensures.device.was_clean c.in_ok-reply.reply (λ honest clean. w.in-Ok.ensures.device.stays_clean honest clean) w.in-Ok.ensures.defines
          (λ clean. performs_marked means params host (g.C.Cells.holding c.self.inside.replica) c.args.mark.now c.in_ok-reply.reply c.as_str.result.now c.if-mark.false c.in_ok-reply.ensures c.in_default.ensures c.in_default-check_defaults.ensures c.as_str.ensures.value))))
      | in-Err-mark_crr+in-Rows-1 w ↦ rw w.result-is (rw (← c.self.view_is) (outside means params host g.C.Cells.is_honest g.C.Cells.is_clean g.C.Cells.holding c.self.inside.replica c.mark_crr.new.self (r.MarkReplicated c.args.mark.now) _ pending none
          (not_defined means params host g.C.Cells.is_honest g.C.Cells.is_clean g.C.Cells.holding c.self.inside.replica c.mark_crr.new.self (r.MarkReplicated c.args.mark.now) (g.C.Cells.holding c.self.inside.replica) c.mark_crr.ensures.device.was_honest c.mark_crr.ensures.device.was_clean w.in-Err-mark_crr.error w.from.result w.from.ensures refl
          (λ honest clean. w.in-Err-mark_crr.ensures.device.stays_clean honest clean) w.in-Err-mark_crr.ensures.defines)))
      | in-Err-mark_crr+in-Done-1 w ↦ rw w.result-is (rw (← c.self.view_is) (outside means params host g.C.Cells.is_honest g.C.Cells.is_clean g.C.Cells.holding c.self.inside.replica c.mark_crr.new.self (r.MarkReplicated c.args.mark.now) _ pending none
          (not_defined means params host g.C.Cells.is_honest g.C.Cells.is_clean g.C.Cells.holding c.self.inside.replica c.mark_crr.new.self (r.MarkReplicated c.args.mark.now) (g.C.Cells.holding c.self.inside.replica) c.mark_crr.ensures.device.was_honest c.mark_crr.ensures.device.was_clean w.in-Err-mark_crr.error w.from.result w.from.ensures refl
          (λ honest clean. w.in-Err-mark_crr.ensures.device.stays_clean honest clean) w.in-Err-mark_crr.ensures.defines)))
    ]
