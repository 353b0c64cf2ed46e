-- What the DELETEs of a store remove.
use Rattle.std.proofs.Common.{◌≡◌, ℕ, ℤ, List, [], ◌∷◌, map, filter, not, codes, Ok, false, refl, ap}
use Rattle.sqlite.specs.declared.types.Value.TheVariants.{Int, Text, Blob}
use Rattle.sqlite.specs.Order.{Row}
use Rattle.sqlite.specs.State.{State, ExecutesIn}
use Rattle.cr_rows.proofs.RowLemmas.{lists_in, lists_none}
use Rattle.cr_rows.proofs.DeleteLemmas.{deletes}
use Rattle.cr_rows.proofs.SelectLemmas.{passes_all}
use Rattle.cr_lattice.specs.declared.change.Change.{Change}
use Rattle.cr_lattice.specs.declared.stamped.Stamped.{Stamped}
use Rattle.cr_lattice.specs.declared.table.Table.{Table}
use Rattle.cr_store.specs.declared.format.Format.TheVariants.{Second}
use Rattle.cr_store.specs.Ordinals.{ordinal}
use Rattle.cr_store.specs.Schema.{cell_columns, cell2_columns, store_schema}
use Rattle.cr_store.specs.Rows.{cell_row}
use Rattle.cr_store.specs.Shows.{Holds, HasCells}
use Rattle.cr_store.specs.Plan.{without_old}
use Rattle.cr_store.proofs.RowTests.{passes_old}
use Rattle.cr_store.proofs.ReadLemmas.{lists_kept, named_filter}
use Rattle.cr_store.proofs.StoreLemmas.{with_old, with_cells}
use Rattle.cr_store.proofs.TextLemmas.{delete_cell, delete_cell_is, delete_cell_plain, at_old_key, old_bare, cell_bare, empty_old, empty_old_is, empty_old_plain}

pub drops_cell : (old new : State) (ts : List Table) (a b o d : List Row) (ss : List Stamped) (c : Change) (version : ℤ) (count : ℕ) → HasCells old.now ts a b o d ss
    → ExecutesIn false delete_cell (Int (ordinal ts c.table) ∷ Blob c.pk ∷ Text c.cid ∷ Int version ∷ []) old new (Ok count) → HasCells new.now ts a b o d (without_old version c ss)
drops_cell old new ts a b o d ss c version count it h =
    let params : Row = Int (ordinal ts c.table) ∷ Blob c.pk ∷ Text c.cid ∷ Int version ∷ [] in
    let cut = deletes store_schema 4 (codes "cr_cell2") 8 cell2_columns (1 ∷ 2 ∷ 3 ∷ []) cell_bare delete_cell at_old_key params (map (cell_row Second ts) ss) old new count
    delete_cell_is delete_cell_plain refl it.held.cells_are it.held.schema h in
    record {
      held = with_cells old.now new.now a b o (map (cell_row Second ts) ss) d _ it.held cut.schema_is cut.others
          (lists_in _ _ _ cut.rows (lists_kept ts _ _ (old.now.trees 8) ss it.named (λ id s there. ap not (passes_old ts c version id s there)) it.held.cells_are));
      named = named_filter ts _ ss it.named;
    }

none_left : (rows : List Row) → filter (λ r. not (passes_all [] [] r)) rows ≡ []
none_left [] = refl
none_left (r ∷ rows) = none_left rows

-- all rows of cr_cell are gone
pub drops_old : (old new : State) (a b o c d : List Row) (count : ℕ) → Holds old.now a b o c d → ExecutesIn false empty_old [] old new (Ok count) → Holds new.now a b [] c d
drops_old old new a b o c d count it h =
    let cut = deletes store_schema 2 (codes "cr_cell") 4 cell_columns (1 ∷ 2 ∷ 3 ∷ []) old_bare empty_old [] [] o old new count empty_old_is empty_old_plain refl it.old_are it.schema h in
    with_old old.now new.now a b o c d [] it cut.schema_is cut.others (lists_in _ _ _ cut.rows (lists_in _ _ _ (none_left (old.now.trees 4)) lists_none))
