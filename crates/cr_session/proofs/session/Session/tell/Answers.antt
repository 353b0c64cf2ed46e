use Rattle.std.proofs.Common.{◌∙◌}
use Rattle.cr_script.specs.Speaking.{HasHeard}
use Rattle.cr_session.specs.Sessions.{clean, honest, standing}
use Rattle.cr_session.proofs.Telling.{all_told, told_all}
use Rattle.cr_session.proofs.session.Session.tell.Goals as goal

pub returns-clause-tells : goal.returns-clause-tells
returns-clause-tells g c =
    told_all (honest g.C.Cells.is_honest) (clean g.C.Cells.is_clean) (standing g.C.Cells.holding) c.args.self.now c.events.new.self c.args.changes.now
    (λ h. c.names.ensures.device.was_honest (c.events.ensures.finds.device.was_honest h)) (λ k. c.names.ensures.device.was_clean (c.events.ensures.finds.device.was_clean k)) (λ k. c.events.ensures.finds.same k ∙ (c.in-Ok.ensures.names (c.events.ensures.finds.device.was_clean k)).same)
    (λ events. HasHeard g.G.Guarding.noted g.G.Guarding.noting c.args.guard.now c.tell.new.self events) (λ h k. c.in-Ok-events.ensures.finds.device.stays_clean h (c.in-Ok.ensures.device.stays_clean (c.events.ensures.finds.device.was_honest h) k))
    (λ k.
    let at = c.events.ensures.finds.device.was_clean k in
    let named = c.in-Ok.ensures.names at in
    all_told g.C.Cells.holding (λ events. HasHeard g.G.Guarding.noted g.G.Guarding.noting c.args.guard.now c.tell.new.self events) c.args.self.now c.names.new.self c.as_slice-tables.result.now c.args.changes.now c.deref.result.now c.deref-2.result.now
    (c.names.ensures.sound at) named.same (c.as_slice-tables.ensures ∙ named.names.tables) (c.is_of.ensures.well_formed c.if-not-is_of.false) c.in_ok-check_changes.ensures.ok (c.deref.ensures.value ∙ c.in_ok-touched.ensures) (c.deref-2.ensures.value ∙ c.in-Ok-events.ensures.finds.finds k)
    (c.in_ok-tell.ensures.ok, c.tell.ensures.noting))
