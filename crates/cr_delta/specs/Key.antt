-- The packed key of a row. Source: this project's own.
use Rattle.std.specs.Prelude.{ℕ, List, [], ◌∷◌, find, Option}
use Rattle.std.specs.List.{zip, filter_map}
use Rattle.std.specs.Option.{option_map}
use Rattle.cr_value.specs.declared.value.Value.{Value}
use Rattle.cr_value.specs.Packing.{packed, Packed}
use Rattle.cr_lattice.specs.declared.table.ColumnDef.{ColumnDef}
use Rattle.cr_lattice.specs.declared.table.TableDef.{TableDef}
use Rattle.cr_lattice.specs.Check.{stands_at}

-- each column with the row's value in it
abbrev pub cells_of : TableDef → List Value → List (ColumnDef × Value)
cells_of def row = zip def.columns row

-- the row's value in the key column at a place
unfoldable pub key_part : TableDef → List Value → ℕ → Option Value
key_part def row place = option_map (λ cell. cell.1) (find (λ cell. stands_at place cell.0) (cells_of def row))

-- the places that a key has at most
abbrev pub key_places : List ℕ
key_places = 1 ∷ 2 ∷ 3 ∷ 4 ∷ 5 ∷ 6 ∷ 7 ∷ 8 ∷ []

-- the values of a row's key columns, in the order of their places
unfoldable pub key_values : TableDef → List Value → List Value
key_values def row = filter_map (key_part def row) key_places

-- a row's packed key
unfoldable pub key_of : TableDef → List Value → List ℕ
key_of def row = packed (key_values def row)

-- the row has a key, which can be packed
abbrev pub HasKey : TableDef → List Value → Type 0
HasKey def row = Packed (key_values def row) (key_of def row)
