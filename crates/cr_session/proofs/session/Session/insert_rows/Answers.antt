use Rattle.std.proofs.Common.{Ok, refl}
use Rattle.cr_world.specs.declared.command.Reply.TheVariants.{Done}
use Rattle.cr_scalar.specs.Host.{host}
use Rattle.cr_changed.proofs.Widths.{brought}
use Rattle.cr_script.specs.Speaking.{HasHeard}
use Rattle.cr_session.specs.Sessions.{standing}
use Rattle.cr_session.proofs.Hearing.{hears_nothing}
use Rattle.cr_session.proofs.Inserting.{insert_faults}
use Rattle.cr_session.proofs.session.Session.insert_rows.Goals as goal

pub bring-requires-clause-width : goal.bring-requires-clause-width
bring-requires-clause-width g c =
    brought (host (g.F.Functions.function_of c.args.functions.now) (g.F.Functions.scalar c.args.functions.now) (g.F.Functions.step c.args.functions.now) (g.F.Functions.finish c.args.functions.now) (g.F.Functions.order_of c.args.functions.now))
    c.args.params.now c.args.insert.now c.in-Ok.rows.items (rw c.as_slice-columns.ensures at c.in-Ok.ensures)

pub returns-in-Ok-clause-performs : goal.returns-in-Ok-clause-performs
returns-in-Ok-clause-performs g c = c.bring.ensures.performs _ c.args.params.now (rw c.as_slice-columns.ensures at c.in-Ok.ensures)

pub returns-clause-performs : goal.returns-clause-performs
returns-clause-performs g c =
    insert_faults _ c.args.params.now _ g.C.Cells.is_honest g.C.Cells.is_clean g.C.Cells.holding c.args.self.now c.args.names c.requires.named c.args.insert.now c.requires.suits c.requires.table c.in_ok-check_replicated.ensures c.if-insert.false
    c.in-Err.fault c.from.result c.from.ensures (rw c.as_slice-columns.ensures at c.in-Err.ensures)

pub returns-then-insert-clause-heard : goal.returns-then-insert-clause-heard
returns-then-insert-clause-heard g c = λ k. hears_nothing (λ events. HasHeard g.G.Guarding.noted g.G.Guarding.noting c.args.guard.now c.args.guard.now events) (standing g.C.Cells.holding c.args.self.now) (standing g.C.Cells.holding c.args.self.now) (Ok Done) refl (refl, refl)
