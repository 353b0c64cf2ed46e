use Rattle.cr_session.specs.Lookup.{IsLook, ShowsDelete}
use Rattle.cr_session.specs.Sessions.{standing}
use Rattle.cr_session.proofs.ByKey.{delete_looked, suffices}
use Rattle.cr_session.proofs.Committing.{replicated_seen, replicated_there}
use Rattle.cr_session.proofs.session.Session.look_for_delete.Goals as goal

pub returns-clause-looks : goal.returns-clause-looks
returns-clause-looks g c = λ clean.
    let was = c.look.ensures.device.was_clean clean in
    suffices (IsLook _ c.args.params.now (standing g.C.Cells.holding c.args.self.now) c.as_str-name.result.now c.as_slice.result.now) (ShowsDelete _ c.args.params.now c.args.delete.now (standing g.C.Cells.holding c.args.self.now)) _ _ c.look.result
    (λ s l. delete_looked _ c.args.params.now (g.C.Cells.holding c.args.self.now.0) (c.requires.sound was) c.args.self.now.1 s c.args.delete.now c.as_str-name.result.now c.as_slice.result.now c.as_str-name.ensures.value c.as_slice.ensures
    (replicated_seen (standing g.C.Cells.holding c.args.self.now) c.args.names c.args.delete.now.relation.definition (c.requires.named was) (replicated_there c.args.names c.args.delete.now.relation c.requires.suits c.requires.table c.requires.replicated)) l)
    (c.look.ensures.looks clean)
