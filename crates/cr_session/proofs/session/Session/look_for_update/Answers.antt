use Rattle.std.proofs.Common.{◌∷◌, [], ◌∙◌, sym}
use Rattle.cr_session.specs.Lookup.{IsLook, ShowsTables, ShowsUpdate}
use Rattle.cr_session.specs.Sessions.{standing}
use Rattle.cr_session.proofs.ByKey.{suffices, update_looked, update_shown}
use Rattle.cr_session.proofs.Committing.{replicated_seen, replicated_there}
use Rattle.cr_session.proofs.session.Session.look_for_update.Goals as goal

pub returns-clause-looks : goal.returns-clause-looks
returns-clause-looks g c = λ clean.
    let was = c.look.ensures.device.was_clean clean in
    suffices (IsLook _ c.args.params.now (standing g.C.Cells.holding c.args.self.now) c.as_str-name.result.now c.as_slice.result.now) (ShowsUpdate _ c.args.params.now c.args.update.now (standing g.C.Cells.holding c.args.self.now)) _ _ c.look.result
    (λ s l. update_looked _ c.args.params.now (g.C.Cells.holding c.args.self.now.0) (c.requires.sound was) c.args.self.now.1 s c.args.update.now c.as_str-name.result.now c.as_slice.result.now c.as_str-name.ensures.value c.as_slice.ensures (sym c.assigns_key.ensures ∙ c.if-assigns_key.false)
    (replicated_seen (standing g.C.Cells.holding c.args.self.now) c.args.names c.args.update.now.relation.definition (c.requires.named was) (replicated_there c.args.names c.args.update.now.relation c.requires.suits c.requires.table c.requires.replicated)) l)
    (c.look.ensures.looks clean)

pub returns-then-assigns_key-clause-looks : goal.returns-then-assigns_key-clause-looks
returns-then-assigns_key-clause-looks g c = λ clean.
    suffices (ShowsTables (standing g.C.Cells.holding c.args.self.now) (c.as_str-name.result.now ∷ [])) (ShowsUpdate _ c.args.params.now c.args.update.now (standing g.C.Cells.holding c.args.self.now)) _ _ c.see_table.result
    (λ s l. update_shown _ c.args.params.now (g.C.Cells.holding c.args.self.now.0) (c.requires.sound (c.see_table.ensures.device.was_clean clean)) c.args.self.now.1 s c.args.update.now c.as_str-name.result.now c.as_str-name.ensures.value l) (c.see_table.ensures.looks clean)
