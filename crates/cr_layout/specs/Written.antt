-- What a definition is that bytes can spell. Source: this project's own format 1.
use Rattle.std.specs.Prelude.{◌≡◌, ℕ, ◌<◌, ◌≤◌, ◌^◌, List, length, Option, Some, None}
use Rattle.std.specs.List.{AllByRecursion}
use Rattle.std.specs.Str.{IsUtf8}
use Rattle.cr_value.specs.declared.value.Value.{Value}
use Rattle.cr_value.specs.Packing.{IsValue, size_limit}
use Rattle.cr_lattice.specs.declared.table.ColumnDef.{ColumnDef}
use Rattle.cr_lattice.specs.declared.table.TableDef.{TableDef}
use Rattle.cr_layout.specs.Definition.{default_bytes, definition}

-- a text in UTF-8 whose length fits four bytes
pub record FitsName (name : List ℕ) : Type 0 where
  pub utf8 : IsUtf8 name
  pub short : length name < 2 ^ 32

abbrev pub FitsPlace : Option ℕ → Type 0
FitsPlace None = Unit {0}
FitsPlace (Some place) = place < 256

-- a value as it is in memory, whose packed key is within the limit
pub record FitsDefault (value : Value) : Type 0 where
  pub typed : IsValue value
  pub short : length (default_bytes value) ≤ size_limit

pub record FitsColumn (c : ColumnDef) : Type 0 where
  pub name : FitsName c.name
  pub collation : FitsName c.collation
  pub key : FitsPlace c.key
  pub default : FitsDefault c.default

-- a definition as it is in memory, whose counts and lengths fit their bytes
pub record FitsBytes (d : TableDef) : Type 0 where
  pub few : length d.columns < 256
  pub columns : AllByRecursion FitsColumn d.columns

-- outside the key, or at a place from 1
abbrev pub IsPlace : Option ℕ → Type 0
IsPlace None = Unit {0}
IsPlace (Some place) = 1 ≤ place

-- no column is at place 0 of the key, which is written as outside it
abbrev pub HasPlaces : TableDef → Type 0
HasPlaces d = AllByRecursion (λ c. IsPlace c.key) d.columns

-- a definition whose bytes tell each of its columns wholly
pub record IsWritten (d : TableDef) : Type 0 where
  pub fits : FitsBytes d
  pub places : HasPlaces d

-- for a table of that name the bytes spell this definition
pub record Spells (bytes table : List ℕ) (d : TableDef) : Type 0 where
  pub name : d.name ≡ table
  pub spelled : definition d ≡ bytes
  pub written : IsWritten d
