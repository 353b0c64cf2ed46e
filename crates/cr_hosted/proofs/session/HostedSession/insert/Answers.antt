use Rattle.std.proofs.Common.{◌∙◌, Ok, Err, refl, subst, sym}
use Rattle.cr_scalar.specs.Host.{host as means_of}
use Rattle.cr_changed.proofs.Widths.{brought}
use Rattle.cr_module.specs.Lawful.{AreWide}
use Rattle.cr_hosted.proofs.Updating.{insert_faults, insert_ignored, insert_updates}
use Rattle.cr_hosted.proofs.session.HostedSession.insert.Goals as goal

pub returns-then-insert-clause-performs : goal.returns-then-insert-clause-performs
returns-then-insert-clause-performs g c = λ host. insert_ignored c.args.self.now c.args.insert.now c.requires.of_host c.if-insert.true (sym c.in_transaction.ensures ∙ c.if-in_transaction.false)

pub returns-in-Err-clause-performs : goal.returns-in-Err-clause-performs
returns-in-Err-clause-performs g c = λ host.
    insert_faults c.args.self.now c.args.insert.now c.from.result c.in-Err.fault c.requires.of_host c.if-insert.false (sym c.in_transaction.ensures ∙ c.if-in_transaction.false) c.from.ensures
    (rw c.as_slice-columns.ensures at c.in-Err.ensures)

pub update-requires : goal.update-requires
update-requires g c = λ x there.
    subst (λ cols. AreWide cols c.deref.result.now) (sym (c.requires.columns x (rw c.as_str.ensures.value at there)))
    (rw c.deref.ensures.value (brought (means_of (g.F.Functions.function_of c.args.functions.now) (g.F.Functions.scalar c.args.functions.now) (g.F.Functions.step c.args.functions.now) (g.F.Functions.finish c.args.functions.now) (g.F.Functions.order_of c.args.functions.now))
    c.args.params.now c.args.insert.now c.in-Ok.rows.items (rw c.as_slice-columns.ensures at c.in-Ok.ensures)))

pub returns-in-Ok-update-clause-performs : goal.returns-in-Ok-update-clause-performs
returns-in-Ok-update-clause-performs g c = λ host.
    insert_updates c.args.self.now _ c.args.insert.now c.in-Ok.rows.items (Ok tt) _ _ c.requires.of_host c.if-insert.false (sym c.in_transaction.ensures ∙ c.if-in_transaction.false) (rw c.as_slice-columns.ensures at c.in-Ok.ensures)
    (rw c.as_str.ensures.value at (rw c.deref.ensures.value at c.in-Ok-update.ensures)) refl (λ honest. honest) (λ clean. clean) (λ honest clean. clean) refl

pub returns-clause-performs : goal.returns-clause-performs
returns-clause-performs g c = λ host.
    insert_updates c.args.self.now _ c.args.insert.now c.in-Ok.rows.items (Err c.in-Err-update.refusal) _ _ c.requires.of_host c.if-insert.false (sym c.in_transaction.ensures ∙ c.if-in_transaction.false) (rw c.as_slice-columns.ensures at c.in-Ok.ensures)
    (rw c.as_str.ensures.value at (rw c.deref.ensures.value at c.in-Err-update.ensures)) refl (λ honest. honest) (λ clean. clean) (λ honest clean. clean) refl
