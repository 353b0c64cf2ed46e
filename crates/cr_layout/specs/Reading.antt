-- Reading a definition from left to right. Source: this project's own format 1.
use Rattle.std.specs.Prelude.{ℕ, zero, suc, Bool, true, false, List, [], ◌∷◌, length, Option, Some, None, ◌==◌, if◌then◌else◌}
use Rattle.std.specs.Str.{is_utf8}
use Rattle.cr_value.specs.declared.affinity.Affinity.{Affinity}
use Rattle.cr_value.specs.declared.affinity.Affinity.TheVariants.{Integer, Text, Blob, Numeric}
use Rattle.cr_value.specs.declared.value.Value.{Value}
use Rattle.cr_value.specs.declared.value.Value.TheVariants.{Null}
use Rattle.cr_value.specs.Unpacking.{◌>>=◌, sized_at, unpacked}
use Rattle.cr_lattice.specs.declared.table.ColumnDef.{ColumnDef}
use Rattle.cr_lattice.specs.declared.table.TableDef.{TableDef}

-- a text in UTF-8
unfoldable pub name_at : List ℕ → Option (List ℕ × List ℕ)
name_at bytes = do
  name ← sized_at bytes
  if is_utf8 name.0 then Some (name.0, name.1) else None

unfoldable pub affinity_at : List ℕ → Option (Affinity × List ℕ)
affinity_at [] = None
affinity_at (byte ∷ bytes) =
    if byte == 1 then Some (Integer, bytes)
    else if byte == 2 then Some (Text, bytes)
    else if byte == 3 then Some (Blob, bytes)
    else if byte == 4 then Some (Numeric, bytes)
    else None

-- exactly 0 or 1
unfoldable pub not_null_at : List ℕ → Option (Bool × List ℕ)
not_null_at [] = None
not_null_at (byte ∷ bytes) = if byte == 0 then Some (false, bytes) else if byte == 1 then Some (true, bytes) else None

-- 0 is outside the key
unfoldable pub key_at : List ℕ → Option (Option ℕ × List ℕ)
key_at [] = None
key_at (place ∷ bytes) = if place == 0 then Some (None, bytes) else Some (Some place, bytes)

-- the value of a list of one
unfoldable pub only : List Value → Option Value
only [] = None
only (v ∷ []) = Some v
only (v ∷ w ∷ vs) = None

-- nothing is NULL, and else a packed key of one value
unfoldable pub default_of : List ℕ → Option Value
default_of bytes = if length bytes == 0 then Some Null else (unpacked bytes >>= only)

unfoldable pub default_at : List ℕ → Option (Value × List ℕ)
default_at bytes = do
  packed ← sized_at bytes
  value ← default_of packed.0
  Some (value, packed.1)

unfoldable pub column_at : List ℕ → Option (ColumnDef × List ℕ)
column_at bytes = do
  name ← name_at bytes
  affinity ← affinity_at name.1
  collation ← name_at affinity.1
  not_null ← not_null_at collation.1
  key ← key_at not_null.1
  default ← default_at key.1
  Some (record { name = name.0; affinity = affinity.0; collation = collation.0; not_null = not_null.0; key = key.0; default = default.0 }, default.1)

unfoldable pub columns_at : ℕ → List ℕ → Option (List ColumnDef × List ℕ)
columns_at zero bytes = Some ([], bytes)
columns_at (suc n) bytes = do
  first ← column_at bytes
  others ← columns_at n first.1
  Some (first.0 ∷ others.0, others.1)

-- the columns that all of the bytes spell, if they spell some
unfoldable pub columns_of : List ℕ → Option (List ColumnDef)
columns_of [] = None
columns_of (count ∷ bytes) = columns_at count bytes >>= λ cs. if length cs.1 == 0 then Some cs.0 else None

-- the definition of a table of that name which the bytes spell, if they spell one
unfoldable pub definition_of : List ℕ → List ℕ → Option TableDef
definition_of name bytes = columns_of bytes >>= λ cs. Some (record { name = name; columns = cs })
