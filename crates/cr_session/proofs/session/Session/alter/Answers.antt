use Rattle.std.proofs.Common.{◌≡◌, ◌∙◌, List, Option, false, refl, sym, ap, subst, option_map}
use Rattle.std.specs.Prelude.{is_some}
use Rattle.cr_lattice.specs.declared.change.Change.{Change}
use Rattle.cr_term.specs.declared.query.Resolved.TheVariants as r
use Rattle.cr_cells.specs.Holding.{IsSound}
use Rattle.cr_fit.specs.Suited.{HasRelation}
use Rattle.cr_world.specs.State.{catalog}
use Rattle.cr_world.specs.declared.command.Reply.TheVariants.{Done}
use Rattle.cr_session.specs.Sessions.{SessionOf, standing}
use Rattle.cr_session.proofs.Making.{addable, defined, not_defined, outside, performs_altered}
use Rattle.cr_session.proofs.session.Session.alter.Goals.{in-Ok, in-Err-add_column}
use Rattle.cr_session.proofs.session.Session.alter.Goals as goal

pub add_column-requires : goal.add_column-requires
add_column-requires g c =
    let has = subst (λ (s : SessionOf g.row.C.Denot). g.C.Cells.is_clean s.0 → HasRelation (catalog (standing g.C.Cells.holding s)) c.args.alter.now.relation) (sym c.self.view_is) c.requires.relation in
    let sound = subst (λ (s : SessionOf g.row.C.Denot). g.C.Cells.is_clean s.0 → IsSound (g.C.Cells.holding s.0)) (sym c.self.view_is) c.requires.sound in
    λ clean. addable (g.C.Cells.holding c.self.inside.replica) c.args.alter.now c.as_str.result.now (sound clean) (has clean) c.requires.fits c.in_default.ensures c.in_ok-check_default.ensures c.as_str.ensures.value

pub returns : goal.returns
returns g c = λ means params host.
    let pending : Option (List Change) = option_map (λ p. p.1) c.self.inside.pending in
    let none : is_some pending ≡ false = ap (λ (s : SessionOf g.row.C.Denot). is_some s.1) c.self.view_is ∙ sym c.in_transaction.ensures ∙ c.if-in_transaction.false in
    elim c.match-add_column.branch [
      | in-Ok w ↦ rw w.result-is (rw (← c.self.view_is) (outside means params host g.C.Cells.is_honest g.C.Cells.is_clean g.C.Cells.holding c.self.inside.replica c.add_column.new.self (r.Alter c.args.alter.now) _ pending none
          (defined means params host g.C.Cells.is_honest g.C.Cells.is_clean g.C.Cells.holding c.self.inside.replica c.add_column.new.self _ _ c.add_column.ensures.device.was_honest c.add_column.ensures.device.was_clean Done (λ honest clean. w.in-Ok.ensures.device.stays_clean honest clean) w.in-Ok.ensures.defines
          (λ clean. performs_altered (g.C.Cells.holding c.self.inside.replica) c.args.alter.now means params host c.as_str.result.now c.in_default.ensures c.in_ok-check_default.ensures c.as_str.ensures.value))))
      | in-Err-add_column w ↦ rw w.result-is (rw (← c.self.view_is) (outside means params host g.C.Cells.is_honest g.C.Cells.is_clean g.C.Cells.holding c.self.inside.replica c.add_column.new.self (r.Alter c.args.alter.now) _ pending none
          (not_defined means params host g.C.Cells.is_honest g.C.Cells.is_clean g.C.Cells.holding c.self.inside.replica c.add_column.new.self (r.Alter c.args.alter.now) (g.C.Cells.holding c.self.inside.replica) c.add_column.ensures.device.was_honest c.add_column.ensures.device.was_clean w.in-Err-add_column.error w.from.result w.from.ensures refl
          (λ honest clean. w.in-Err-add_column.ensures.device.stays_clean honest clean) w.in-Err-add_column.ensures.defines)))
    ]
