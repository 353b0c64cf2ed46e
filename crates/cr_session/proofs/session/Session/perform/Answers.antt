use Rattle.std.proofs.Common.{refl}
use Rattle.cr_scalar.specs.Host.{host as means_of}
use Rattle.cr_language.specs.Sql.{view}
use Rattle.cr_term.specs.declared.query.Resolved.TheVariants as r
use Rattle.cr_script.specs.Speaking.{closures, host_under, HasHeard}
use Rattle.cr_session.specs.Sessions.{standing}
use Rattle.cr_session.proofs.Hearing.{hears_quiet}
use Rattle.cr_session.proofs.session.Session.perform.Goals as goal

pub returns-in-Select-clause-performs : goal.returns-in-Select-clause-performs
returns-in-Select-clause-performs g c = rw c.in-Select.is (c.select.ensures _)

pub returns-in-MarkReplicated-clause-performs : goal.returns-in-MarkReplicated-clause-performs
returns-in-MarkReplicated-clause-performs g c = rw c.in-MarkReplicated.is (c.mark_replicated.ensures _ _ _)

pub returns-in-Create-clause-performs : goal.returns-in-Create-clause-performs
returns-in-Create-clause-performs g c = rw c.in-Create.is (c.create.ensures _ _ _)

pub returns-in-Alter-clause-performs : goal.returns-in-Alter-clause-performs
returns-in-Alter-clause-performs g c = rw c.in-Alter.is (c.alter.ensures _ _ _)

pub returns-in-Insert-clause-performs : goal.returns-in-Insert-clause-performs
returns-in-Insert-clause-performs g c = rw c.in-Insert.is c.insert.ensures.performs

pub returns-in-Update-clause-performs : goal.returns-in-Update-clause-performs
returns-in-Update-clause-performs g c = rw c.in-Update.is c.update.ensures.performs

pub returns-in-Delete-clause-performs : goal.returns-in-Delete-clause-performs
returns-in-Delete-clause-performs g c = rw c.in-Delete.is c.delete.ensures.performs

pub returns-in-Select-clause-heard : goal.returns-in-Select-clause-heard
returns-in-Select-clause-heard g c = λ k.
    hears_quiet (λ events. HasHeard g.G.Guarding.noted g.G.Guarding.noting c.args.guard.now c.args.guard.now events) (means_of (g.F.Functions.function_of c.args.functions.now) (g.F.Functions.scalar c.args.functions.now) (g.F.Functions.step c.args.functions.now) (g.F.Functions.finish c.args.functions.now) (g.F.Functions.order_of c.args.functions.now)) c.args.params.now (host_under (closures (g.G.Guarding.allows c.args.guard.now) (g.G.Guarding.refuses c.args.guard.now)) (g.G.Guarding.rules c.args.guard.now)) (standing g.C.Cells.holding c.args.self.now) (view (r.Select c.in-Select.query)) c.select.result (standing g.C.Cells.holding c.select.new.self) refl ((c.select.ensures (host_under (closures (g.G.Guarding.allows c.args.guard.now) (g.G.Guarding.refuses c.args.guard.now)) (g.G.Guarding.rules c.args.guard.now))).performs k) (refl, refl)

pub returns-in-MarkReplicated-clause-heard : goal.returns-in-MarkReplicated-clause-heard
returns-in-MarkReplicated-clause-heard g c = λ k.
    hears_quiet (λ events. HasHeard g.G.Guarding.noted g.G.Guarding.noting c.args.guard.now c.args.guard.now events) (means_of (g.F.Functions.function_of c.args.functions.now) (g.F.Functions.scalar c.args.functions.now) (g.F.Functions.step c.args.functions.now) (g.F.Functions.finish c.args.functions.now) (g.F.Functions.order_of c.args.functions.now)) c.args.params.now (host_under (closures (g.G.Guarding.allows c.args.guard.now) (g.G.Guarding.refuses c.args.guard.now)) (g.G.Guarding.rules c.args.guard.now)) (standing g.C.Cells.holding c.args.self.now) (view (r.MarkReplicated c.in-MarkReplicated.mark)) c.mark_replicated.result (standing g.C.Cells.holding c.mark_replicated.new.self) refl ((c.mark_replicated.ensures (means_of (g.F.Functions.function_of c.args.functions.now) (g.F.Functions.scalar c.args.functions.now) (g.F.Functions.step c.args.functions.now) (g.F.Functions.finish c.args.functions.now) (g.F.Functions.order_of c.args.functions.now)) c.args.params.now (host_under (closures (g.G.Guarding.allows c.args.guard.now) (g.G.Guarding.refuses c.args.guard.now)) (g.G.Guarding.rules c.args.guard.now))).performs k) (refl, refl)

pub returns-in-Create-clause-heard : goal.returns-in-Create-clause-heard
returns-in-Create-clause-heard g c = λ k.
    hears_quiet (λ events. HasHeard g.G.Guarding.noted g.G.Guarding.noting c.args.guard.now c.args.guard.now events) (means_of (g.F.Functions.function_of c.args.functions.now) (g.F.Functions.scalar c.args.functions.now) (g.F.Functions.step c.args.functions.now) (g.F.Functions.finish c.args.functions.now) (g.F.Functions.order_of c.args.functions.now)) c.args.params.now (host_under (closures (g.G.Guarding.allows c.args.guard.now) (g.G.Guarding.refuses c.args.guard.now)) (g.G.Guarding.rules c.args.guard.now)) (standing g.C.Cells.holding c.args.self.now) (view (r.Create c.in-Create.create)) c.create.result (standing g.C.Cells.holding c.create.new.self) refl ((c.create.ensures (means_of (g.F.Functions.function_of c.args.functions.now) (g.F.Functions.scalar c.args.functions.now) (g.F.Functions.step c.args.functions.now) (g.F.Functions.finish c.args.functions.now) (g.F.Functions.order_of c.args.functions.now)) c.args.params.now (host_under (closures (g.G.Guarding.allows c.args.guard.now) (g.G.Guarding.refuses c.args.guard.now)) (g.G.Guarding.rules c.args.guard.now))).performs k) (refl, refl)

pub returns-in-Alter-clause-heard : goal.returns-in-Alter-clause-heard
returns-in-Alter-clause-heard g c = λ k.
    hears_quiet (λ events. HasHeard g.G.Guarding.noted g.G.Guarding.noting c.args.guard.now c.args.guard.now events) (means_of (g.F.Functions.function_of c.args.functions.now) (g.F.Functions.scalar c.args.functions.now) (g.F.Functions.step c.args.functions.now) (g.F.Functions.finish c.args.functions.now) (g.F.Functions.order_of c.args.functions.now)) c.args.params.now (host_under (closures (g.G.Guarding.allows c.args.guard.now) (g.G.Guarding.refuses c.args.guard.now)) (g.G.Guarding.rules c.args.guard.now)) (standing g.C.Cells.holding c.args.self.now) (view (r.Alter c.in-Alter.alter)) c.alter.result (standing g.C.Cells.holding c.alter.new.self) refl ((c.alter.ensures (means_of (g.F.Functions.function_of c.args.functions.now) (g.F.Functions.scalar c.args.functions.now) (g.F.Functions.step c.args.functions.now) (g.F.Functions.finish c.args.functions.now) (g.F.Functions.order_of c.args.functions.now)) c.args.params.now (host_under (closures (g.G.Guarding.allows c.args.guard.now) (g.G.Guarding.refuses c.args.guard.now)) (g.G.Guarding.rules c.args.guard.now))).performs k) (refl, refl)
