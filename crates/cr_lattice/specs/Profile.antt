-- Which definitions of tables are accepted. Source: this project's own profile.
use Rattle.std.specs.Prelude.{◌≡◌, ℕ, zero, suc, ◌<◌, Bool, true, false, not, ◌&&◌, ◌||◌, ◌==◌, nat_eq, nat_lt, nat_le, codes, List, [], ◌∷◌, length, take, slice_index_or, count_by, AllPairs, Option}
use Rattle.std.specs.List.{list_any, starts_with}
use Rattle.cr_value.specs.declared.value.Value.{Value}
use Rattle.cr_value.specs.declared.affinity.Affinity.{Affinity}
use Rattle.cr_value.specs.Affinity.{applied}
use Rattle.cr_value.specs.Packing.{size_limit, packed}
use Rattle.cr_lattice.specs.declared.table.ColumnDef.{ColumnDef}
use Rattle.cr_lattice.specs.declared.table.TableDef.{TableDef}
use Rattle.cr_lattice.specs.declared.profile.ProfileFault.{ProfileFault}
use Rattle.cr_lattice.specs.declared.profile.ProfileFault.TheVariants.{PrimaryKey, Collation, RowCid, Default, Columns, KeyColumns, Name}
use Rattle.cr_lattice.specs.Faults.{first_failed}
use Rattle.cr_lattice.specs.Check.{same_bytes, is_null, is_key_column, is_row_cid, stands_at}

abbrev pub key_count : TableDef → ℕ
key_count def = count_by is_key_column def.columns

-- each place of the key from 1 to n is exactly one column's
abbrev pub places_once : TableDef → ℕ → Bool
places_once def zero = true
places_once def (suc n) = (count_by (stands_at (suc n)) def.columns == 1) && places_once def n

-- there is a key, and its places are 1 up to their number, each once
unfoldable pub has_key : TableDef → Bool
has_key def = nat_lt 0 (key_count def) && places_once def (key_count def)

-- a key column that does not compare byte by byte
abbrev pub is_collated_key : ColumnDef → Bool
is_collated_key col = is_key_column col && not (same_bytes col.collation (codes "binary"))

-- the name that speaks of the row itself
abbrev pub is_named_row : ColumnDef → Bool
is_named_row col = is_row_cid col.name

-- some column has the name that speaks of the row itself
unfoldable pub has_row_cid : TableDef → Bool
has_row_cid def = list_any (λ col. is_row_cid col.name) def.columns

-- as the affinity wants it, the value alone makes a packed key over the limit
abbrev pub is_too_long : Affinity → Value → Bool
is_too_long a v = nat_lt size_limit (length (packed (applied a v ∷ [])))

abbrev pub is_default_too_long : ColumnDef → Bool
is_default_too_long col = is_too_long col.affinity col.default

-- empty, or of the names that stand for the engine's own tables
abbrev pub is_reserved : List ℕ → Bool
is_reserved name = (length name == 0) || (starts_with nat_eq name (codes "sqlite_") || starts_with nat_eq name (codes "crsql_"))

-- the most columns of a table
abbrev pub most_columns : ℕ
most_columns = 200

-- the rules on a definition, in the order in which a breach is told
abbrev pub rules_of : TableDef → List (Bool × ProfileFault)
rules_of def =
    (has_key def, PrimaryKey) ∷ (not (list_any is_collated_key def.columns), Collation) ∷ (not (has_row_cid def), RowCid)
    ∷ (not (list_any is_default_too_long def.columns), Default) ∷ (nat_le (length def.columns) most_columns, Columns)
    ∷ (nat_le (key_count def) 8, KeyColumns) ∷ (not (is_reserved def.name), Name) ∷ []

-- the first rule that a definition breaks
unfoldable pub profile_fault : TableDef → Option ProfileFault
profile_fault def = first_failed (rules_of def)

-- ---- names

abbrev pub HasDistinctNames : TableDef → Type 0
HasDistinctNames def = AllPairs (λ a b. same_bytes a.name b.name ≡ false) def.columns

-- the column at i has the name of one before it, and no column before i has
pub record IsFirstRepeat (def : TableDef) (i : ℕ) : Type 0 where
  pub within : i < length def.columns
  pub repeats : (d : ColumnDef) → list_any (λ c. same_bytes c.name (slice_index_or def.columns i d).name) (take i def.columns) ≡ true
  pub before : AllPairs (λ a b. same_bytes a.name b.name ≡ false) (take i def.columns)

-- ---- columns that a new row may leave out

-- a NOT NULL column outside the key whose default is NULL, which affinity leaves as it is
abbrev pub lacks_default : ColumnDef → Bool
lacks_default col = not (is_key_column col) && (col.not_null && is_null col.default)
