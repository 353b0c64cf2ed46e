-- The bytes of a table's definition. Source: this project's own format 1.
use Rattle.std.specs.Prelude.{ℕ, Bool, true, false, List, [], ◌∷◌, ◌++◌, length, Option, Some, None}
use Rattle.std.specs.List.{flat_map}
use Rattle.cr_value.specs.declared.affinity.Affinity.{Affinity}
use Rattle.cr_value.specs.declared.affinity.Affinity.TheVariants.{Integer, Text, Blob, Numeric}
use Rattle.cr_value.specs.declared.value.Value.{Value}
use Rattle.cr_value.specs.declared.value.Value.TheVariants as val
use Rattle.cr_value.specs.Packing.{sized, packed}
use Rattle.cr_lattice.specs.declared.table.ColumnDef.{ColumnDef}
use Rattle.cr_lattice.specs.declared.table.TableDef.{TableDef}

abbrev pub affinity_byte : Affinity → ℕ
affinity_byte Integer = 1
affinity_byte Text = 2
affinity_byte Blob = 3
affinity_byte Numeric = 4

-- 1 for NOT NULL
abbrev pub not_null_byte : Bool → ℕ
not_null_byte true = 1
not_null_byte false = 0

-- the place in the key from 1, or 0
abbrev pub key_byte : Option ℕ → ℕ
key_byte None = 0
key_byte (Some place) = place

-- the default as a packed key of it alone, nothing for NULL
abbrev pub default_bytes : Value → List ℕ
default_bytes val.Null = []
default_bytes (val.Int n) = packed (val.Int n ∷ [])
default_bytes (val.Text t) = packed (val.Text t ∷ [])
default_bytes (val.Blob b) = packed (val.Blob b ∷ [])

-- name, affinity, collation, NOT NULL, the place in the key, default
abbrev pub column_bytes : ColumnDef → List ℕ
column_bytes c = sized c.name ++ affinity_byte c.affinity ∷ sized c.collation ++ not_null_byte c.not_null ∷ key_byte c.key ∷ sized (default_bytes c.default)

-- the number of columns, and then each
abbrev pub definition : TableDef → List ℕ
definition d = length d.columns ∷ flat_map column_bytes d.columns
