use Rattle.std.proofs.Common.{map, sym, subst}
use Rattle.cr_rows.specs.Rows.{Lists}
use Rattle.cr_cells.proofs.CellLemmas.{cell_total, cell_exact}
use Rattle.cr_store.specs.Ordinals.{IsNamed}
use Rattle.cr_store.specs.Rows.{cell_row, cell_of}
use Rattle.cr_store.specs.Stored.{IsCellRow}
use Rattle.cr_store.specs.Opening.{IsReadableCell}
use Rattle.cr_store.proofs.Damage.{read_then}
use Rattle.cr_store.proofs.ListedRows.{lists_read, stored_listed, both_all}
use Rattle.cr_store.proofs.StoredRows.{cell_shows, cell_stored}
use Rattle.cr_store.proofs.opening.list_cells.Goals as goal

pub returns : goal.returns
returns c =
    let rows = c.args.rows.items in
    let f = c.args.format in
    let ts = c.args.tables.now in
    read_then c.read_cells.result _ _ _ _
    (λ cells h. ((λ distinct. subst (λ ss. Lists rows (map (cell_row f ts) ss)) (sym h.0) (lists_read cell_total cell_exact (cell_row f ts) (cell_of f ts) (IsCellRow f ts) (cell_shows f ts distinct) rows h.1)), h.0))
    (λ damaged ss all named it. damaged (stored_listed (cell_row f ts) (IsCellRow f ts) (λ s. IsReadableCell s × IsNamed ts s) (cell_stored f ts) rows ss it (both_all IsReadableCell (IsNamed ts) ss all named)))
    c.read_cells.ensures
