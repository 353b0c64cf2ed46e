use Rattle.std.proofs.Common.{◌≡◌, ◌+◌, pos, length, List, rules, arith, ap, ◌∙◌, w64, to_z, of_z}
use Rattle.std.proofs.lemmas.Int.{to_z-of_z}
use Rattle.std.proofs.lemmas.Result.{err_from_is_err_and}
use Rattle.cr_lattice.specs.declared.table.Table.{Table}
use Rattle.cr_store.specs.Opening.{IsReadableTable}
use Rattle.cr_store.proofs.Damage.{damage_then}
use Rattle.cr_store.proofs.StoredLemmas.{all_one_more}
use Rattle.cr_store.proofs.TableEntries.{one_more_table, not_a_table}
use Rattle.cr_store.proofs.opening.tables_in.Goals as goal

pub returns-in_err-table : goal.returns-in_err-table
returns-in_err-table c =
    let n = 1 + length c.loop-entry.tables.items in
    let ordinal : to_z w64 (of_z w64 c.next_ordinal.result) ≡ pos n = to_z-of_z w64 c.next_ordinal.result (search rules) ∙ c.next_ordinal.ensures ∙ ap (λ (ts : List Table). pos (1 + length ts)) c.deref.ensures.value in
    let none = not_a_table c.args.entries.now c.loop-entry.tables.items c.loop-entry.entry-index c.entry-item.result c.loop-entry.invariant.0 (omega arith) c.entry-item.is IsReadableTable in
    let p = err_from_is_err_and c.from_residual.result c.from_residual.ensures.1 in
    rw (p.1, p.2) (damage_then c.in_err-table.field-0.0 none (c.in_err-table.ensures n ordinal))

pub loop-entry-preserved : goal.loop-entry-preserved
loop-entry-preserved c =
    let n = 1 + length c.loop-entry.tables.items in
    let ordinal : to_z w64 (of_z w64 c.next_ordinal.result) ≡ pos n = to_z-of_z w64 c.next_ordinal.result (search rules) ∙ c.next_ordinal.ensures ∙ ap (λ (ts : List Table). pos (1 + length ts)) c.deref.ensures.value in
    let read = c.in_ok-table.ensures n ordinal in
    rw c.in-Ok.ensures.items (
      one_more_table c.args.entries.now c.loop-entry.tables.items c.loop-entry.entry-index c.entry-item.result c.loop-entry.invariant.0 (omega arith) c.entry-item.is c.in_ok-table.table read.0,
      all_one_more IsReadableTable c.loop-entry.tables.items c.in_ok-table.table c.loop-entry.invariant.1 read.1,
    )
