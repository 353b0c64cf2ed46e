use Rattle.std.proofs.Common.{Err, refl, subst, sym}
use Rattle.cr_term.specs.declared.query.Resolved.TheVariants as r
use Rattle.cr_fit.specs.Suited.{HasRelation}
use Rattle.cr_language.specs.Sql.{view}
use Rattle.cr_script.specs.Speaking.{closures, host_under}
use Rattle.cr_session.specs.Sessions.{clean, honest, standing}
use Rattle.cr_session.specs.Lookup.{ShowsUpdate}
use Rattle.cr_session.proofs.Committing.{has_key_there, replicated_there, update_refused_rows, updates}
use Rattle.cr_session.proofs.Looking.{after_look, unseen}
use Rattle.cr_session.proofs.Making.{passed_is_table, refuses_module, untouched}
use Rattle.cr_session.proofs.ByKey.{shows_then}
use Rattle.cr_session.proofs.Seeing.{catalog_of_names}
use Rattle.cr_session.proofs.session.Session.update.Goals as goal

pub look_for_update-requires-clause-table : goal.look_for_update-requires-clause-table
look_for_update-requires-clause-table g c = passed_is_table c.args.update.now.relation c.in_default.ensures

pub changes_of_update-requires-clause-key : goal.changes_of_update-requires-clause-key
changes_of_update-requires-clause-key g c =
    has_key_there c.args.names _ c.requires.whole (replicated_there c.args.names c.args.update.now.relation c.requires.suits (passed_is_table c.args.update.now.relation c.in_default.ensures) c.in_ok-check_replicated.ensures)

pub returns-in-Ok-changes_of_update-clause-performs : goal.returns-in-Ok-changes_of_update-clause-performs
returns-in-Ok-changes_of_update-clause-performs g c =
    after_look _ c.args.params.now _ g.C.Cells.is_honest g.C.Cells.is_clean g.C.Cells.holding c.args.self.now c.look_for_update.new.self (r.Update c.args.update.now) c.look_for_update.ensures.device.was_honest c.look_for_update.ensures.device.was_clean (λ clean. (c.in-Ok.ensures.looks clean).same) c.add_changes.result c.add_changes.new.self c.in-Ok.ensures.device.stays_clean
    (updates _ c.args.params.now _ g.C.Cells.is_honest g.C.Cells.is_clean g.C.Cells.holding c.look_for_update.new.self c.in-Ok.snapshot c.args.update.now (λ clean. shows_then (ShowsUpdate _ c.args.params.now c.args.update.now) _ _ _ (c.in-Ok.ensures.looks clean))
    (subst (λ k. HasRelation k c.args.update.now.relation) (sym (catalog_of_names c.args.names c.in-Ok.snapshot c.in-Ok.ensures.names)) c.requires.suits) (passed_is_table c.args.update.now.relation c.in_default.ensures) c.in_ok-check_replicated.ensures
    c.add_changes.new.self c.in-Ok-changes_of_update.changes.items c.add_changes.result c.in-Ok-changes_of_update.ensures c.add_changes.ensures.adds)

pub returns-clause-performs : goal.returns-clause-performs
returns-clause-performs g c =
    after_look _ c.args.params.now _ g.C.Cells.is_honest g.C.Cells.is_clean g.C.Cells.holding c.args.self.now c.look_for_update.new.self (r.Update c.args.update.now) c.look_for_update.ensures.device.was_honest c.look_for_update.ensures.device.was_clean (λ clean. (c.in-Ok.ensures.looks clean).same) _ c.look_for_update.new.self c.in-Ok.ensures.device.stays_clean
    (update_refused_rows _ c.args.params.now _ g.C.Cells.is_honest g.C.Cells.is_clean g.C.Cells.holding c.look_for_update.new.self c.in-Ok.snapshot c.args.update.now (λ clean. shows_then (ShowsUpdate _ c.args.params.now c.args.update.now) _ _ _ (c.in-Ok.ensures.looks clean))
    (subst (λ k. HasRelation k c.args.update.now.relation) (sym (catalog_of_names c.args.names c.in-Ok.snapshot c.in-Ok.ensures.names)) c.requires.suits) (passed_is_table c.args.update.now.relation c.in_default.ensures) c.in_ok-check_replicated.ensures
    c.in-Err-changes_of_update.refusal c.in-Err-changes_of_update.ensures)

pub returns-in-Err-look_for_update-clause-performs : goal.returns-in-Err-look_for_update-clause-performs
returns-in-Err-look_for_update-clause-performs g c =
    unseen _ c.args.params.now _ g.C.Cells.is_honest g.C.Cells.is_clean g.C.Cells.holding c.args.self.now c.look_for_update.new.self (r.Update c.args.update.now) c.look_for_update.ensures.device.was_honest c.look_for_update.ensures.device.was_clean (λ clean. (c.in-Err-look_for_update.ensures.looks clean).same)
    c.in-Err-look_for_update.error c.from.result c.from.ensures refl c.in-Err-look_for_update.ensures.device.stays_clean (λ clean. (c.in-Err-look_for_update.ensures.looks clean).looks)

pub returns-in-Err-clause-performs : goal.returns-in-Err-clause-performs
returns-in-Err-clause-performs g c =
    untouched _ c.args.params.now _ (honest g.C.Cells.is_honest) (clean g.C.Cells.is_clean) (standing g.C.Cells.holding) c.args.self.now (r.Update c.args.update.now) (Err c.in-Err.refusal)
    (λ clean. refuses_module _ c.args.params.now (host_under (closures (g.G.Guarding.allows c.args.guard.now) (g.G.Guarding.refuses c.args.guard.now)) (g.G.Guarding.rules c.args.guard.now)) (standing g.C.Cells.holding c.args.self.now) c.args.update.now.relation (view (r.Update c.args.update.now)) _ c.in-Err.refusal refl refl c.in-Err.ensures)
