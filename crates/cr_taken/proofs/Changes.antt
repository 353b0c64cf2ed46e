-- The changes of a write are well formed.
use Rattle.std.proofs.Common.{◌≡◌, ℕ, ◌≤◌, Bool, true, false, not, ◌&&◌, List, [], ◌∷◌, map, None, refl, subst}
use Rattle.std.specs.List.{list_any, AllByRecursion}
use Rattle.std.specs.List.Sorted.{IsStrictlySortedBy}
use Rattle.std.specs.Ordering.{on}
use Rattle.cr_value.specs.declared.value.Value.{Value}
use Rattle.cr_value.specs.Order.{bytes_cmp}
use Rattle.cr_value.specs.Packing.{size_limit}
use Rattle.cr_lattice.specs.declared.change.Change.{Change}
use Rattle.cr_lattice.specs.declared.table.Table.{Table}
use Rattle.cr_lattice.specs.declared.table.ColumnDef.{ColumnDef}
use Rattle.cr_lattice.specs.declared.table.TableDef.{TableDef}
use Rattle.cr_value.specs.Size.{value_len}
use Rattle.cr_lattice.specs.Check.{is_fixed, IsWellFormed}
use Rattle.cr_lattice.proofs.Tested.{or_false}
use Rattle.cr_cells.specs.Tables.{first_fault}
use Rattle.cr_delta.specs.Key.{cells_of, key_of, HasKey}
use Rattle.cr_delta.specs.Delta.{delta}
use Rattle.cr_delta.specs.Wanted.{may_hold, IsRowOf, AreWanted, AreSmall}
use Rattle.cr_delta.proofs.WellFormed.{delta_is_well_formed}
use Rattle.cr_query.specs.Writes.{lacks, has_null, lacks_value, by_key}
use Rattle.cr_taken.specs.Taken.{IsFitting, AreFitting, AreHeld, Replicates, AreKept}
use Rattle.cr_taken.proofs.Members.{all_both, all_set}
use Rattle.cr_taken.proofs.Tables.{writable, kept_well_formed, no_fault}

held_so : (fixed lacks : Bool) → fixed ≡ true → lacks ≡ false → (fixed && not lacks) ≡ true
held_so fixed lacks e f = rw (e, f) refl

cells_hold : (cells : List (ColumnDef × Value)) → AllByRecursion (λ cell. is_fixed cell.0.affinity cell.1 ≡ true) cells → list_any (lacks false) cells ≡ false → AllByRecursion (λ cell. may_hold cell.0 cell.1 ≡ true) cells
cells_hold [] all none = tt
cells_hold (cell ∷ cells) all none =
    let p = or_false (lacks false cell) (list_any (lacks false) cells) none in
    (held_so (is_fixed cell.0.affinity cell.1) (lacks false cell) all.0 p.0, cells_hold cells all.1 p.1)

-- what the rows lack nothing of
wholes : (def : TableDef) (rows : List (List Value)) → lacks_value def rows ≡ false → AllByRecursion (λ row. has_null def row ≡ false) rows
unfolding lacks_value
wholes def [] none = tt
wholes def (row ∷ rows) none = let p = or_false (has_null def row) (list_any (has_null def) rows) none in (p.0, wholes def rows p.1)

module _ (def : TableDef) (rows : List (List Value)) (whole : lacks_value def rows ≡ false) (keys : AllByRecursion (HasKey def) (by_key def rows)) where
  -- fitting rows are rows of the table, by their keys
  rows_of : AreFitting def rows → AllByRecursion (IsRowOf def) (by_key def rows)
  unfolding by_key
  rows_of fitting =
      let both : AllByRecursion (λ row. IsFitting def row × (has_null def row ≡ false)) rows = all_both (IsFitting def) (λ row. has_null def row ≡ false) (λ row. IsFitting def row × (has_null def row ≡ false)) rows (λ row f n. (f, n)) fitting (wholes def rows whole) in
      let set : AllByRecursion (λ row. IsFitting def row × (has_null def row ≡ false)) (by_key def rows) = all_set (on (key_of def) bytes_cmp) (λ row. IsFitting def row × (has_null def row ≡ false)) rows both in
      all_both (λ row. IsFitting def row × (has_null def row ≡ false)) (HasKey def) (IsRowOf def) (by_key def rows)
      (λ row p k. record { width = p.0.width; cells = cells_hold (cells_of def row) p.0.fixed p.1; key = k }) set keys

  small_of : AllByRecursion (λ row. AllByRecursion (λ v. value_len v ≤ size_limit) row) rows → AreSmall (by_key def rows)
  unfolding by_key
  small_of small = all_set (on (key_of def) bytes_cmp) (λ row. AllByRecursion (λ v. value_len v ≤ size_limit) row) rows small

  -- the changes that lead to held rows are well formed
  pub changes_are_taken : (tables : List Table) (kept : List Change) (site : List ℕ) → AreKept tables kept → Replicates tables def → AreHeld def rows → IsStrictlySortedBy bytes_cmp (map (key_of def) (by_key def rows)) → first_fault tables (delta def site kept (by_key def rows)) ≡ None
  changes_are_taken tables kept site are there held rise =
      let wanted : AreWanted def (by_key def rows) = record { rows = rows_of held.fitting; in_order = rise } in
      let formed = delta_is_well_formed def site kept (by_key def rows) (writable tables kept def are there) (kept_well_formed tables kept def are there) wanted (small_of held.small) in
      no_fault tables kept def are there _ (subst (λ cs. AllByRecursion (λ c. IsWellFormed c def) (delta def site cs (by_key def rows))) are.unbeaten formed)
