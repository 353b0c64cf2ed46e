-- What stands against the rows that a write wants, and how they are where nothing does. Source: this project's own.
use Rattle.std.specs.Prelude.{◌≡◌, ℕ, true, false, List, length, map, Result, Ok, Err}
use Rattle.std.specs.List.{AllByRecursion}
use Rattle.std.specs.List.Sorted.{IsStrictlySortedBy}
use Rattle.cr_value.specs.declared.value.Value.{Value}
use Rattle.cr_value.specs.Order.{bytes_cmp}
use Rattle.cr_lattice.specs.declared.table.ColumnDef.{ColumnDef}
use Rattle.cr_lattice.specs.declared.table.TableDef.{TableDef}
use Rattle.cr_delta.specs.Key.{key_of, HasKey}
use Rattle.cr_query.specs.Writes.{has_long_key, lacks_value, has_twice, by_key}
use Rattle.cr_wanted.specs.declared.judged.Against.{Against}
use Rattle.cr_wanted.specs.declared.judged.Against.TheVariants.{LongKey, LackingValue, KeyTwice, Memory}

-- each row has a value for each column
abbrev pub AreWide : List ColumnDef → List (List Value) → Type 0
AreWide cols rows = AllByRecursion (λ row. length row ≡ length cols) rows

-- a row behind its key
abbrev pub under : TableDef → List Value → List ℕ × List Value
under def row = (key_of def row, row)

-- nothing stands against the rows, and these are they as a delta takes them: by the bytes of their keys
pub record AreTaken (def : TableDef) (rows taken : List (List Value)) : Type 0 where
  pub short : has_long_key def rows ≡ false
  pub whole : lacks_value def rows ≡ false
  pub once : has_twice def rows ≡ false
  pub by_key : taken ≡ by_key def rows
  pub keys : AllByRecursion (HasKey def) taken
  pub in_order : IsStrictlySortedBy bytes_cmp (map (key_of def) taken)

-- they are taken, or this is the first that stands against them
abbrev pub Judges : {X : Type 0} → (X → List (List Value)) → TableDef → List (List Value) → Result X Against → Type 0
Judges view def rows (Ok x) = AreTaken def rows (view x)
Judges view def rows (Err LongKey) = has_long_key def rows ≡ true
Judges view def rows (Err LackingValue) = (has_long_key def rows ≡ false) × (lacks_value def rows ≡ true)
Judges view def rows (Err KeyTwice) = (has_long_key def rows ≡ false) × (lacks_value def rows ≡ false) × (has_twice def rows ≡ true)
Judges view def rows (Err Memory) = Unit {0}
