use Rattle.std.proofs.Common.{Ok, refl}
use Rattle.cr_world.specs.declared.command.Reply.TheVariants.{Done}
use Rattle.cr_script.specs.Speaking.{HasHeard}
use Rattle.cr_session.specs.Sessions.{standing}
use Rattle.cr_session.proofs.Hearing.{hears_nothing}
use Rattle.cr_session.proofs.Receiving.{is_changes, receive_ignored, receive_refused, receives}
use Rattle.cr_session.proofs.session.Session.receive.Goals as goal

pub changes_of_received-requires-clause-changes : goal.changes_of_received-requires-clause-changes
changes_of_received-requires-clause-changes g c = is_changes c.args.names.now c.args.insert.now.relation c.requires.whole.no_modules c.requires.suits c.requires.module

pub returns-then-insert-clause-performs : goal.returns-then-insert-clause-performs
returns-then-insert-clause-performs g c = receive_ignored _ c.args.params.now _ g.C.Cells.is_honest g.C.Cells.is_clean g.C.Cells.holding c.args.self.now c.args.names.now c.requires.named c.requires.whole.no_modules c.args.insert.now c.requires.suits c.requires.module c.if-insert.true

pub returns-in-Ok-clause-performs : goal.returns-in-Ok-clause-performs
returns-in-Ok-clause-performs g c =
    receives _ c.args.params.now _ g.C.Cells.is_honest g.C.Cells.is_clean g.C.Cells.holding c.args.self.now c.args.names.now c.requires.named c.requires.whole.no_modules c.args.insert.now c.requires.suits c.requires.module
    c.add_changes.new.self c.in-Ok.changes.items c.add_changes.result c.if-insert.false (rw (← c.as_slice-tables.ensures) c.in-Ok.ensures) c.add_changes.ensures.adds

pub returns-in-Err-clause-performs : goal.returns-in-Err-clause-performs
returns-in-Err-clause-performs g c =
    receive_refused _ c.args.params.now _ g.C.Cells.is_honest g.C.Cells.is_clean g.C.Cells.holding c.args.self.now c.args.names.now c.requires.named c.requires.whole.no_modules c.args.insert.now c.requires.suits c.requires.module
    c.in-Err.refusal c.if-insert.false (rw (← c.as_slice-tables.ensures) c.in-Err.ensures)

pub returns-then-insert-clause-heard : goal.returns-then-insert-clause-heard
returns-then-insert-clause-heard g c = λ k. hears_nothing (λ events. HasHeard g.G.Guarding.noted g.G.Guarding.noting c.args.guard.now c.args.guard.now events) (standing g.C.Cells.holding c.args.self.now) (standing g.C.Cells.holding c.args.self.now) (Ok Done) refl (refl, refl)
