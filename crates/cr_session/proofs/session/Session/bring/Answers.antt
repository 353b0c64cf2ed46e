use Rattle.std.proofs.Common.{◌∙◌, map, ap, refl}
use Rattle.cr_cells.specs.declared.store.CellsError.TheVariants as cells
use Rattle.cr_cells.specs.declared.store.StoreFault.TheVariants as store
use Rattle.cr_delta.specs.Key.{key_of}
use Rattle.cr_term.specs.declared.query.Resolved.TheVariants as r
use Rattle.cr_touched.specs.Parts.{is_key_of, part}
use Rattle.cr_world.specs.State.{now}
use Rattle.cr_world.specs.declared.refusal.Refusal.TheVariants as refusal
use Rattle.cr_session.specs.Sessions.{standing}
use Rattle.cr_session.proofs.Committing.{has_key_there, insert_refused_rows, replicated_there}
use Rattle.cr_session.proofs.Bringing.{told_refused}
use Rattle.cr_session.proofs.Inserting.{alone_told, brings, brings_refused, made_read, told_read}
use Rattle.cr_session.proofs.Looking.{unseen}
use Rattle.cr_session.proofs.session.Session.bring.Goals as goal

-- the store is not as it was a moment ago
pub returns-then-not-is_of-clause-performs : goal.returns-then-not-is_of-clause-performs
returns-then-not-is_of-clause-performs g c = λ means params both.
    unseen means params _ g.C.Cells.is_honest g.C.Cells.is_clean g.C.Cells.holding c.args.self.now c.args.self.now (r.Insert c.args.insert.now) (λ honest. honest) (λ clean. clean) (λ clean. refl)
    (cells.Store store.Refused) (refusal.Store store.Refused) refl refl (λ honest clean told. clean) (λ clean. refl)

pub check_rows-requires-clause-key : goal.check_rows-requires-clause-key
check_rows-requires-clause-key g c =
    has_key_there c.args.names.now _ c.requires.whole (replicated_there c.args.names.now c.args.insert.now.relation c.requires.suits c.requires.table c.requires.replicated)

pub changes_of_rows-requires-clause-key : goal.changes_of_rows-requires-clause-key
changes_of_rows-requires-clause-key g c =
    has_key_there c.args.names.now _ c.requires.whole (replicated_there c.args.names.now c.args.insert.now.relation c.requires.suits c.requires.table c.requires.replicated)

pub returns-in-Err-clause-performs : goal.returns-in-Err-clause-performs
returns-in-Err-clause-performs g c = λ means params both.
    insert_refused_rows means params _ g.C.Cells.is_honest g.C.Cells.is_clean g.C.Cells.holding c.args.self.now c.args.names.now c.requires.named c.args.insert.now c.requires.suits c.requires.table c.requires.replicated c.requires.used c.in-Err.refusal
    (λ clean. told_refused means params c.args.insert.now c.args.rows.items both _ _ c.in-Err.refusal
    (alone_told g.C.Cells.is_clean g.C.Cells.holding c.args.self.now c.requires.sound c.args.names.now c.requires.named (rw c.as_slice-tables.ensures at c.is_of.ensures.well_formed c.if-not-is_of.false) c.args.insert.now c.requires.suits c.requires.table c.requires.replicated c.args.rows.items clean
    c.in-Err.refusal (rw c.deref.ensures.value at c.in-Err.ensures.alone)))

pub returns-in-Ok-changes_of_rows-clause-performs : goal.returns-in-Ok-changes_of_rows-clause-performs
returns-in-Ok-changes_of_rows-clause-performs g c = λ means params both.
    brings means params _ g.C.Cells.is_honest g.C.Cells.is_clean g.C.Cells.holding c.args.self.now c.see_keys.new.self c.args.names.now c.requires.named c.args.insert.now c.requires.suits c.requires.table c.requires.replicated c.requires.used
    c.args.rows.items both c.see_keys.ensures.device.was_honest c.see_keys.ensures.device.was_clean c.in-Ok.ensures.device.stays_clean (λ clean. (c.in-Ok.ensures.sees clean).same) c.in-Ok-changes_of_rows.changes.items c.add_changes.result c.add_changes.new.self
    (λ clean. made_read g.C.Cells.is_clean g.C.Cells.holding c.args.self.now c.requires.sound c.args.names.now c.requires.named (rw c.as_slice-tables.ensures at c.is_of.ensures.well_formed c.if-not-is_of.false) c.args.insert.now c.requires.suits c.requires.table c.requires.replicated c.args.rows.items
    (c.see_keys.ensures.device.was_clean clean) _ _
    (c.deref-4.ensures.value ∙ (c.in-Ok.ensures.sees clean).sees ∙ (λ i. part (c.as_str.ensures.value i) (is_key_of ((c.deref-3.ensures.value ∙ c.in_ok-keys.ensures ∙ ap (map (key_of c.args.insert.now.relation.definition)) c.deref-2.ensures.value) i)) (now (standing g.C.Cells.holding c.args.self.now))))
    refl c.in-Ok-changes_of_rows.changes.items c.in-Ok-changes_of_rows.ensures) c.add_changes.ensures.adds

pub returns-clause-performs : goal.returns-clause-performs
returns-clause-performs g c = λ means params both.
    brings_refused means params _ g.C.Cells.is_honest g.C.Cells.is_clean g.C.Cells.holding c.args.self.now c.see_keys.new.self c.args.names.now c.requires.named c.args.insert.now c.requires.suits c.requires.table c.requires.replicated c.requires.used
    c.args.rows.items both c.see_keys.ensures.device.was_honest c.see_keys.ensures.device.was_clean c.in-Ok.ensures.device.stays_clean (λ clean. (c.in-Ok.ensures.sees clean).same) c.in-Err-changes_of_rows.refusal
    (λ clean. told_read g.C.Cells.is_clean g.C.Cells.holding c.args.self.now c.requires.sound c.args.names.now c.requires.named (rw c.as_slice-tables.ensures at c.is_of.ensures.well_formed c.if-not-is_of.false) c.args.insert.now c.requires.suits c.requires.table c.requires.replicated c.args.rows.items
    (c.see_keys.ensures.device.was_clean clean) _ _
    (c.deref-4.ensures.value ∙ (c.in-Ok.ensures.sees clean).sees ∙ (λ i. part (c.as_str.ensures.value i) (is_key_of ((c.deref-3.ensures.value ∙ c.in_ok-keys.ensures ∙ ap (map (key_of c.args.insert.now.relation.definition)) c.deref-2.ensures.value) i)) (now (standing g.C.Cells.holding c.args.self.now))))
    refl c.in-Err-changes_of_rows.refusal c.in-Err-changes_of_rows.ensures)

pub returns-in-Err-see_keys-clause-performs : goal.returns-in-Err-see_keys-clause-performs
returns-in-Err-see_keys-clause-performs g c = λ means params both.
    unseen means params _ g.C.Cells.is_honest g.C.Cells.is_clean g.C.Cells.holding c.args.self.now c.see_keys.new.self (r.Insert c.args.insert.now) c.see_keys.ensures.device.was_honest c.see_keys.ensures.device.was_clean (λ clean. (c.in-Err-see_keys.ensures.sees clean).same)
    c.in-Err-see_keys.error c.from.result c.from.ensures refl c.in-Err-see_keys.ensures.device.stays_clean (λ clean. (c.in-Err-see_keys.ensures.sees clean).sees)
