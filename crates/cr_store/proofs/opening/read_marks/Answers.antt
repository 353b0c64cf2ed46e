use Rattle.std.proofs.Common.{map, sym, subst}
use Rattle.cr_rows.specs.Rows.{Lists}
use Rattle.cr_store.specs.Rows.{mark_row}
use Rattle.cr_store.specs.Stored.{IsMarkRow, mark_of}
use Rattle.cr_store.specs.StoredOrders.{seen_total, seen_exact}
use Rattle.cr_store.specs.Opening.{IsReadableMark}
use Rattle.cr_store.proofs.Damage.{read_then}
use Rattle.cr_store.proofs.ListedRows.{lists_read, stored_listed}
use Rattle.cr_store.proofs.StoredRows.{mark_shows, mark_stored}
use Rattle.cr_store.proofs.opening.read_marks.Goals as goal

pub returns : goal.returns
returns c =
    let rows = c.args.rows.now in
    read_then c.read_table.result _ _ _ _
    (λ marks h. (subst (λ ms. Lists rows (map mark_row ms)) (sym h.0) (lists_read seen_total seen_exact mark_row mark_of IsMarkRow mark_shows rows h.1), h.0))
    (λ damaged ms all it. damaged (stored_listed mark_row IsMarkRow IsReadableMark mark_stored rows ms it all)) c.read_table.ensures
