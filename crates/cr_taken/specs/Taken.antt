-- The rows that a write may bring to a replicated table of a store. Source: this project's own.
use Rattle.std.specs.Prelude.{◌≡◌, true, find, List, [], length, Some, FitsSigned}
use Rattle.std.specs.List.{AllByRecursion}
use Rattle.std.specs.Int.{w64}
use Rattle.cr_value.specs.declared.value.Value.{Value}
use Rattle.cr_value.specs.declared.value.Value.TheVariants.{Null, Int, Text, Blob}
use Rattle.cr_lattice.specs.declared.change.Change.{Change}
use Rattle.cr_lattice.specs.declared.table.Table.{Table}
use Rattle.cr_lattice.specs.declared.table.TableDef.{TableDef}
use Rattle.cr_lattice.specs.Check.{is_fixed}
use Rattle.cr_lattice.specs.Keep.{keep}
use Rattle.cr_cells.specs.Tables.{is_named, IsStored, AreWellFormed}
use Rattle.cr_delta.specs.Key.{cells_of}
use Rattle.cr_delta.specs.Wanted.{AreSmall}
use Rattle.cr_query.specs.Query.{Row, Meaning, holds}
use Rattle.cr_query.specs.Queries.{Insert, Update}

-- a value for each column, each as its column's affinity wants it
pub record IsFitting (def : TableDef) (row : List Value) : Type 0 where
  pub width : length row ≡ length def.columns
  pub fixed : AllByRecursion (λ cell. is_fixed cell.0.affinity cell.1 ≡ true) (cells_of def row)

abbrev pub AreFitting : TableDef → List (List Value) → Type 0
AreFitting def rows = AllByRecursion (IsFitting def) rows

-- and none is longer than a change may carry
pub record AreHeld (def : TableDef) (rows : List (List Value)) : Type 0 where
  pub fitting : AreFitting def rows
  pub small : AreSmall rows

-- the table, as a store has it that replicates it
abbrev pub replicated : TableDef → Table
replicated def = record { definition = def; is_replicated = true }

-- a table of this definition is replicated
abbrev pub Replicates : List Table → TableDef → Type 0
Replicates tables def = find (is_named def.name) tables ≡ Some (replicated def)

-- Tables and what is kept of them, as a sound store has them, or a transaction: fit definitions, and changes that none of
-- them beats, each well formed for a replicated table.
pub record AreKept (tables : List Table) (kept : List Change) : Type 0 where
  pub stored : AllByRecursion IsStored tables
  pub unbeaten : keep kept ≡ kept
  pub well_formed : AreWellFormed tables kept

-- ---- integers of 64 bits: the text of any other might be longer than a change may carry

abbrev pub IsOf64Bits : Value → Type 0
IsOf64Bits Null = Unit {0}
IsOf64Bits (Int n) = FitsSigned w64 n
IsOf64Bits (Text t) = Unit {0}
IsOf64Bits (Blob b) = Unit {0}

-- changes have no others
abbrev pub Have64Bits : List Change → Type 0
Have64Bits changes = AllByRecursion (λ c. IsOf64Bits c.val) changes

-- an expression gives no other on a row
abbrev pub Gives64Bits : {E : Type 0} → Meaning E → Row → E → Type 0
Gives64Bits m row e = (v : Value) → m.value e row ≡ Some v → IsOf64Bits v

-- nor do those of an INSERT
abbrev pub Inserts64Bits : {E : Type 0} → Meaning E → Insert E → Type 0
Inserts64Bits m w = AllByRecursion (λ es. AllByRecursion (λ e. Gives64Bits m [] e) es) w.tuples

-- nor those of an UPDATE, on the rows of these that it changes
abbrev pub Updates64Bits : {E : Type 0} → Meaning E → Update E → List Row → Type 0
Updates64Bits m w rows = AllByRecursion (λ row. holds m w.terms row ≡ Some true → AllByRecursion (λ a. Gives64Bits m row a.expr) w.assignments) rows
