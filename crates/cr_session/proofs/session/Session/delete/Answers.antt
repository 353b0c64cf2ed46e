use Rattle.std.proofs.Common.{Err, refl, subst, sym}
use Rattle.cr_term.specs.declared.query.Resolved.TheVariants as r
use Rattle.cr_fit.specs.Suited.{HasRelation}
use Rattle.cr_language.specs.Sql.{view}
use Rattle.cr_script.specs.Speaking.{closures, host_under}
use Rattle.cr_session.specs.Sessions.{clean, honest, standing}
use Rattle.cr_session.specs.Lookup.{ShowsDelete}
use Rattle.cr_session.proofs.Committing.{has_key_there, replicated_there, delete_refused_rows, deletes}
use Rattle.cr_session.proofs.Looking.{after_look, unseen}
use Rattle.cr_session.proofs.Making.{passed_is_table, refuses_module, untouched}
use Rattle.cr_session.proofs.ByKey.{shows_then}
use Rattle.cr_session.proofs.Seeing.{catalog_of_names}
use Rattle.cr_session.proofs.session.Session.delete.Goals as goal

pub look_for_delete-requires-clause-table : goal.look_for_delete-requires-clause-table
look_for_delete-requires-clause-table g c = passed_is_table c.args.delete.now.relation c.in_default.ensures

pub changes_of_delete-requires-clause-key : goal.changes_of_delete-requires-clause-key
changes_of_delete-requires-clause-key g c =
    has_key_there c.args.names _ c.requires.whole (replicated_there c.args.names c.args.delete.now.relation c.requires.suits (passed_is_table c.args.delete.now.relation c.in_default.ensures) c.in_ok-check_replicated.ensures)

pub returns-in-Ok-changes_of_delete-clause-performs : goal.returns-in-Ok-changes_of_delete-clause-performs
returns-in-Ok-changes_of_delete-clause-performs g c =
    after_look _ c.args.params.now _ g.C.Cells.is_honest g.C.Cells.is_clean g.C.Cells.holding c.args.self.now c.look_for_delete.new.self (r.Delete c.args.delete.now) c.look_for_delete.ensures.device.was_honest c.look_for_delete.ensures.device.was_clean (λ clean. (c.in-Ok.ensures.looks clean).same) c.add_changes.result c.add_changes.new.self c.in-Ok.ensures.device.stays_clean
    (deletes _ c.args.params.now _ g.C.Cells.is_honest g.C.Cells.is_clean g.C.Cells.holding c.look_for_delete.new.self c.in-Ok.snapshot c.args.delete.now (λ clean. shows_then (ShowsDelete _ c.args.params.now c.args.delete.now) _ _ _ (c.in-Ok.ensures.looks clean))
    (subst (λ k. HasRelation k c.args.delete.now.relation) (sym (catalog_of_names c.args.names c.in-Ok.snapshot c.in-Ok.ensures.names)) c.requires.suits) (passed_is_table c.args.delete.now.relation c.in_default.ensures) c.in_ok-check_replicated.ensures
    c.add_changes.new.self c.in-Ok-changes_of_delete.changes.items c.add_changes.result c.in-Ok-changes_of_delete.ensures c.add_changes.ensures.adds)

pub returns-clause-performs : goal.returns-clause-performs
returns-clause-performs g c =
    after_look _ c.args.params.now _ g.C.Cells.is_honest g.C.Cells.is_clean g.C.Cells.holding c.args.self.now c.look_for_delete.new.self (r.Delete c.args.delete.now) c.look_for_delete.ensures.device.was_honest c.look_for_delete.ensures.device.was_clean (λ clean. (c.in-Ok.ensures.looks clean).same) _ c.look_for_delete.new.self c.in-Ok.ensures.device.stays_clean
    (delete_refused_rows _ c.args.params.now _ g.C.Cells.is_honest g.C.Cells.is_clean g.C.Cells.holding c.look_for_delete.new.self c.in-Ok.snapshot c.args.delete.now (λ clean. shows_then (ShowsDelete _ c.args.params.now c.args.delete.now) _ _ _ (c.in-Ok.ensures.looks clean))
    (subst (λ k. HasRelation k c.args.delete.now.relation) (sym (catalog_of_names c.args.names c.in-Ok.snapshot c.in-Ok.ensures.names)) c.requires.suits) (passed_is_table c.args.delete.now.relation c.in_default.ensures) c.in_ok-check_replicated.ensures
    c.in-Err-changes_of_delete.refusal c.in-Err-changes_of_delete.ensures)

pub returns-in-Err-look_for_delete-clause-performs : goal.returns-in-Err-look_for_delete-clause-performs
returns-in-Err-look_for_delete-clause-performs g c =
    unseen _ c.args.params.now _ g.C.Cells.is_honest g.C.Cells.is_clean g.C.Cells.holding c.args.self.now c.look_for_delete.new.self (r.Delete c.args.delete.now) c.look_for_delete.ensures.device.was_honest c.look_for_delete.ensures.device.was_clean (λ clean. (c.in-Err-look_for_delete.ensures.looks clean).same)
    c.in-Err-look_for_delete.error c.from.result c.from.ensures refl c.in-Err-look_for_delete.ensures.device.stays_clean (λ clean. (c.in-Err-look_for_delete.ensures.looks clean).looks)

pub returns-in-Err-clause-performs : goal.returns-in-Err-clause-performs
returns-in-Err-clause-performs g c =
    untouched _ c.args.params.now _ (honest g.C.Cells.is_honest) (clean g.C.Cells.is_clean) (standing g.C.Cells.holding) c.args.self.now (r.Delete c.args.delete.now) (Err c.in-Err.refusal)
    (λ clean. refuses_module _ c.args.params.now (host_under (closures (g.G.Guarding.allows c.args.guard.now) (g.G.Guarding.refuses c.args.guard.now)) (g.G.Guarding.rules c.args.guard.now)) (standing g.C.Cells.holding c.args.self.now) c.args.delete.now.relation (view (r.Delete c.args.delete.now)) _ c.in-Err.refusal refl refl c.in-Err.ensures)
