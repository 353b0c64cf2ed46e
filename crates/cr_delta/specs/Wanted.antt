-- The rows that a write may want, and the law of its changes. Source: this project's own.
use Rattle.std.specs.Prelude.{◌≡◌, ℕ, ◌≤◌, Bool, true, false, not, ◌&&◌, ◌||◌, ◌⊎◌, List, [], length, map}
use Rattle.std.specs.List.{AllByRecursion}
use Rattle.std.specs.List.Sorted.{IsStrictlySortedBy}
use Rattle.cr_value.specs.declared.value.Value.{Value}
use Rattle.cr_value.specs.Order.{bytes_cmp}
use Rattle.cr_value.specs.Packing.{size_limit}
use Rattle.cr_lattice.specs.declared.change.Change.{Change}
use Rattle.cr_lattice.specs.declared.table.ColumnDef.{ColumnDef}
use Rattle.cr_lattice.specs.declared.table.TableDef.{TableDef}
use Rattle.cr_value.specs.Size.{value_len}
use Rattle.cr_lattice.specs.Check.{same_bytes, is_null, is_fixed, is_key_column, IsWellFormed}
use Rattle.cr_lattice.specs.Keep.{keep, join}
use Rattle.cr_lattice.specs.Profile.{key_count, has_key, has_row_cid, HasDistinctNames}
use Rattle.cr_lattice.specs.Rows.{alive_keys, rows}
use Rattle.cr_delta.specs.Key.{cells_of, key_of, HasKey}
use Rattle.cr_delta.specs.Delta.{delta}

-- the column may hold the value: as its affinity wants it, and not NULL in a key or NOT NULL column
abbrev pub may_hold : ColumnDef → Value → Bool
may_hold col v = is_fixed col.affinity v && not ((is_key_column col || col.not_null) && is_null v)

-- a row of the table: one value for each column, which the column may hold, and a key that can be packed
pub record IsRowOf (def : TableDef) (row : List Value) : Type 0 where
  pub width : length row ≡ length def.columns
  pub cells : AllByRecursion (λ cell. may_hold cell.0 cell.1 ≡ true) (cells_of def row)
  pub key : HasKey def row

-- the rows that a write may want: rows of the table, by the bytes of their keys
pub record AreWanted (def : TableDef) (wanted : List (List Value)) : Type 0 where
  pub rows : AllByRecursion (IsRowOf def) wanted
  pub in_order : IsStrictlySortedBy bytes_cmp (map (key_of def) wanted)

-- what these laws ask of a definition: each that the profile accepts has it, if its columns' names differ
pub record IsWritable (def : TableDef) : Type 0 where
  pub key : has_key def ≡ true
  pub few : key_count def ≤ 8
  pub no_row_cid : has_row_cid def ≡ false
  pub names : HasDistinctNames def

-- each change is well formed for the table, or of another table
abbrev pub AreWellFormed : TableDef → List Change → Type 0
AreWellFormed def s = AllByRecursion (λ c. IsWellFormed c def ⊎ (same_bytes c.table def.name ≡ false)) s

-- The law: joined to what is kept, the changes of a write show the rows that are wanted.
abbrev pub DeltaShowsWanted : Type 0
DeltaShowsWanted =
    (def : TableDef) (site : List ℕ) (s : List Change) (wanted : List (List Value))
    → IsWritable def → AreWanted def wanted
    → rows (join s (delta def site (keep s) wanted)) def ≡ wanted

-- Other tables show what they showed.
abbrev pub DeltaLeavesOthers : Type 0
DeltaLeavesOthers =
    (def other : TableDef) (site : List ℕ) (s : List Change) (wanted : List (List Value)) → same_bytes other.name def.name ≡ false
    → rows (join s (delta def site (keep s) wanted)) other ≡ rows (keep s) other

-- Rows that are shown already, each under its own key, change nothing.
abbrev pub DeltaOfShownIsEmpty : Type 0
DeltaOfShownIsEmpty =
    (def : TableDef) (site : List ℕ) (s : List Change) (wanted : List (List Value))
    → alive_keys (keep s) def.name ≡ map (key_of def) wanted → rows (keep s) def ≡ wanted
    → delta def site (keep s) wanted ≡ []

-- The same write again changes nothing.
abbrev pub DeltaIsOnce : Type 0
DeltaIsOnce =
    (def : TableDef) (site : List ℕ) (s : List Change) (wanted : List (List Value))
    → IsWritable def → AreWanted def wanted
    → delta def site (join s (delta def site (keep s) wanted)) wanted ≡ []

-- no value is longer than a change may carry
abbrev pub AreSmall : List (List Value) → Type 0
AreSmall wanted = AllByRecursion (λ row. AllByRecursion (λ v. value_len v ≤ size_limit) row) wanted

-- Where those before are well formed, so is each change of the write.
abbrev pub DeltaIsWellFormed : Type 0
DeltaIsWellFormed =
    (def : TableDef) (site : List ℕ) (s : List Change) (wanted : List (List Value))
    → IsWritable def → AreWellFormed def s → AreWanted def wanted → AreSmall wanted
    → AllByRecursion (λ c. IsWellFormed c def) (delta def site (keep s) wanted)
