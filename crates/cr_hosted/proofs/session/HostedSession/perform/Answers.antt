use Rattle.std.proofs.Common.{◌∙◌, map, refl, subst, sym}
use Rattle.cr_fit.specs.Suited.{Suits}
use Rattle.cr_snapshot.specs.Seen.{catalog_of}
use Rattle.cr_term.specs.declared.query.Resolved.TheVariants as r
use Rattle.cr_world.specs.State.{State}
use Rattle.cr_session.specs.Sessions.{standing}
use Rattle.cr_session.proofs.Beside.{performed_beside}
use Rattle.cr_language.specs.Sql.{view}
use Rattle.cr_modules.specs.States.{made}
use Rattle.cr_scalar.specs.Host.{host as means_of}
use Rattle.cr_script.specs.Speaking.{closures, host_under, HasHeard}
use Rattle.cr_session.specs.Performing.{placed}
use Rattle.cr_hosted.specs.Hosted.{alone}
use Rattle.cr_hosted.proofs.Hearing.{hears_beside, hears_module, hears_quiet_with}
use Rattle.cr_hosted.proofs.Naming.{columns_are, has_its_target, named_alone, suits_alone}
use Rattle.cr_hosted.proofs.Updating.{NoTable, refuses_alter, refuses_delete, refuses_mark, refuses_still, refuses_update, touched}
use Rattle.cr_hosted.proofs.session.HostedSession.perform.Goals as goal

pub perform-requires-clause-suits : goal.perform-requires-clause-suits
perform-requires-clause-suits g c = rw c.without_modules-names.ensures (suits_alone c.args.names _ c.args.statement.now (sym c.touches-touches.ensures ∙ c.if-not-touches.true) c.requires.suits)

pub returns-then-not-touches-clause-performs : goal.returns-then-not-touches-clause-performs
returns-then-not-touches-clause-performs g c =
    let apart = sym c.touches-touches.ensures ∙ c.if-not-touches.true in
    let d = performed_beside _ c.args.params.now _ g.C.Cells.is_honest g.C.Cells.is_clean g.C.Cells.holding _ c.args.self.now.session c.args.statement.now c.perform.result c.perform.new.self apart
    (λ clean. has_its_target (standing g.C.Cells.holding c.args.self.now.session) (alone c.args.names) c.args.statement.now (named_alone _ (standing g.C.Cells.holding c.args.self.now.session) c.args.names refl refl (c.requires.named (c.perform.ensures.performs.device.was_clean clean))) (suits_alone c.args.names _ c.args.statement.now apart c.requires.suits)) c.perform.ensures.performs in
    record { device = record { was_honest = d.device.was_honest; was_clean = d.device.was_clean; stays_clean = d.device.stays_clean }; performs = d.performs }

pub insert-requires-clause-columns : goal.insert-requires-clause-columns
insert-requires-clause-columns g c = λ x there.
    columns_are c.args.names _ c.in-Insert.insert.relation c.requires.listed (touched _ _ _ _ c.in-Insert.is c.touches-touches.ensures c.if-not-touches.false)
    (subst (Suits (catalog_of c.args.names)) c.in-Insert.is c.requires.suits) x there

pub select-requires-clause-touched : goal.select-requires-clause-touched
select-requires-clause-touched g c = touched _ _ _ _ c.in-Select.is c.touches-touches.ensures c.if-not-touches.false

pub returns-in-Select-clause-performs : goal.returns-in-Select-clause-performs
returns-in-Select-clause-performs g c = rw c.in-Select.is (c.select.ensures _)

pub returns-in-Insert-clause-performs : goal.returns-in-Insert-clause-performs
returns-in-Insert-clause-performs g c = rw c.in-Insert.is (c.insert.ensures.performs _)

pub returns-in-Update-clause-performs : goal.returns-in-Update-clause-performs
returns-in-Update-clause-performs g c = rw c.in-Update.is
    (refuses_still _ (r.Update c.in-Update.update) _ (λ m ps k st mm pp ss. refuses_update m ps k st c.in-Update.update c.read_only.result (touched _ _ _ _ c.in-Update.is c.touches-touches.ensures c.if-not-touches.false) c.read_only.ensures))

pub returns-in-Delete-clause-performs : goal.returns-in-Delete-clause-performs
returns-in-Delete-clause-performs g c = rw c.in-Delete.is
    (refuses_still _ (r.Delete c.in-Delete.delete) _ (λ m ps k st mm pp ss. refuses_delete m ps k st c.in-Delete.delete c.read_only-in-Delete.result (touched _ _ _ _ c.in-Delete.is c.touches-touches.ensures c.if-not-touches.false) c.read_only-in-Delete.ensures))

pub returns-in-MarkReplicated-clause-performs : goal.returns-in-MarkReplicated-clause-performs
returns-in-MarkReplicated-clause-performs g c = rw c.in-MarkReplicated.is
    (refuses_still _ (r.MarkReplicated c.in-MarkReplicated.mark) _
    (λ m ps k st mm pp ss. refuses_mark m ps k st c.in-MarkReplicated.mark c.not_a_table.result (touched _ _ _ _ c.in-MarkReplicated.is c.touches-touches.ensures c.if-not-touches.false)
    (subst (λ (s : State). NoTable s c.in-MarkReplicated.mark.relation c.not_a_table.result) (sym ss) c.not_a_table.ensures)))

pub returns-in-Alter-clause-performs : goal.returns-in-Alter-clause-performs
returns-in-Alter-clause-performs g c = rw c.in-Alter.is
    (refuses_still _ (r.Alter c.in-Alter.alter) _
    (λ m ps k st mm pp ss. refuses_alter m ps k st c.in-Alter.alter c.not_a_table-in-Alter.result (touched _ _ _ _ c.in-Alter.is c.touches-touches.ensures c.if-not-touches.false)
    (subst (λ (s : State). NoTable s c.in-Alter.alter.relation c.not_a_table-in-Alter.result) (sym ss) c.not_a_table-in-Alter.ensures)))

pub returns-then-not-touches-clause-heard : goal.returns-then-not-touches-clause-heard
returns-then-not-touches-clause-heard g c = λ k.
    hears_beside (λ events. HasHeard g.G.Guarding.noted g.G.Guarding.noting c.args.guard.now c.perform.new.guard events) (map (λ r. made r.name (g.M.Module.columns_of r.host) (g.M.Module.rows_of r.host) (g.M.Module.updated r.host)) c.args.self.now.modules.list.items) (map (λ r. made r.name (g.M.Module.columns_of r.host) (g.M.Module.rows_of r.host) (g.M.Module.updated r.host)) c.args.self.now.modules.list.items) (standing g.C.Cells.holding c.args.self.now.session) (standing g.C.Cells.holding c.perform.new.self) c.perform.result (c.perform.ensures.heard k)

pub returns-in-Select-clause-heard : goal.returns-in-Select-clause-heard
returns-in-Select-clause-heard g c = λ k.
    hears_quiet_with (λ events. HasHeard g.G.Guarding.noted g.G.Guarding.noting c.args.guard.now c.args.guard.now events) (means_of (g.F.Functions.function_of c.args.functions.now) (g.F.Functions.scalar c.args.functions.now) (g.F.Functions.step c.args.functions.now) (g.F.Functions.finish c.args.functions.now) (g.F.Functions.order_of c.args.functions.now)) c.args.params.now (host_under (closures (g.G.Guarding.allows c.args.guard.now) (g.G.Guarding.refuses c.args.guard.now)) (g.G.Guarding.rules c.args.guard.now)) (placed (map (λ r. made r.name (g.M.Module.columns_of r.host) (g.M.Module.rows_of r.host) (g.M.Module.updated r.host)) c.args.self.now.modules.list.items) (standing g.C.Cells.holding c.args.self.now.session)) (view (r.Select c.in-Select.query)) c.select.result (placed (map (λ r. made r.name (g.M.Module.columns_of r.host) (g.M.Module.rows_of r.host) (g.M.Module.updated r.host)) c.select.new.self.modules.list.items) (standing g.C.Cells.holding c.select.new.self.session)) refl ((c.select.ensures (host_under (closures (g.G.Guarding.allows c.args.guard.now) (g.G.Guarding.refuses c.args.guard.now)) (g.G.Guarding.rules c.args.guard.now))).performs k) (refl, refl)

pub returns-in-Insert-clause-heard : goal.returns-in-Insert-clause-heard
returns-in-Insert-clause-heard g c = λ k.
    rw c.insert.ensures.session (hears_module (λ events. HasHeard g.G.Guarding.noted g.G.Guarding.noting c.args.guard.now c.args.guard.now events) (map (λ r. made r.name (g.M.Module.columns_of r.host) (g.M.Module.rows_of r.host) (g.M.Module.updated r.host)) c.args.self.now.modules.list.items) (map (λ r. made r.name (g.M.Module.columns_of r.host) (g.M.Module.rows_of r.host) (g.M.Module.updated r.host)) c.insert.new.self.modules.list.items) (standing g.C.Cells.holding c.args.self.now.session) c.insert.result (refl, refl))
