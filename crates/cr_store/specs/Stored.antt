-- The rows that a store's tables may have, and what each is read as. Source: this project's own formats 1 and 2.
use Rattle.std.specs.Prelude.{◌≡◌, ℕ, ◌+◌, ℤ, pos, Bool, true, List, [], ◌∷◌, length, codes, is_some}
use Rattle.std.specs.List.{AllByRecursion}
use Rattle.std.specs.Str.{IsUtf8}
use Rattle.std.specs.declared.cmp.Ordering.{Ordering}
use Rattle.std.specs.Ordering.{int_eq, int_cmp, bool_cmp, on, then_cmp}
use Rattle.sqlite.specs.declared.types.Value.{Value as SqlValue}
use Rattle.sqlite.specs.declared.types.Value.TheVariants as sql
use Rattle.sqlite.specs.Order.{Row}
use Rattle.sqlite_value.specs.Order.{bytes, column}
use Rattle.sqlite_rules.specs.Edit.{id_in}
use Rattle.sqlite_trees.specs.Tree.{rowid}
use Rattle.cr_rows.specs.Rows.{AreApart}
use Rattle.cr_value.specs.declared.value.Value.{Value}
use Rattle.cr_value.specs.declared.value.Value.TheVariants as val
use Rattle.cr_value.specs.Order.{bytes_cmp, value_cmp}
use Rattle.cr_lattice.specs.declared.table.Table.{Table}
use Rattle.cr_cells.specs.Marks.{Mark}
use Rattle.cr_layout.specs.Definition.{definition}
use Rattle.cr_store.specs.declared.format.Format.{Format}
use Rattle.cr_store.specs.declared.format.Format.TheVariants.{First, Second}
use Rattle.cr_store.specs.Ordinals.{name_at}
use Rattle.cr_store.specs.Rows.{value_of, value_in, one_if, number_of}
use Rattle.cr_store.specs.declared.stored.MetaEntry.{MetaEntry}
use Rattle.cr_store.specs.declared.stored.TableEntry.{TableEntry}

-- ---- columns

abbrev pub IsText : SqlValue → Type 0
IsText v = (v ≡ sql.Text (bytes v)) × IsUtf8 (bytes v)

abbrev pub IsBlob : SqlValue → Type 0
IsBlob v = v ≡ sql.Blob (bytes v)

abbrev pub IsInteger : SqlValue → Type 0
IsInteger v = v ≡ sql.Int (id_in v)

abbrev pub IsSite : SqlValue → Type 0
IsSite v = (v ≡ sql.Blob (bytes v)) × (length (bytes v) ≡ 16)

abbrev pub is_one : SqlValue → Bool
is_one v = int_eq (id_in v) (pos 1)

-- 0 or 1
abbrev pub IsFlag : SqlValue → Type 0
IsFlag v = v ≡ sql.Int (one_if (is_one v))

-- a text of a value is in UTF-8
abbrev pub IsReadableValue : Value → Type 0
IsReadableValue val.Null = Unit {0}
IsReadableValue (val.Int n) = Unit {0}
IsReadableValue (val.Text t) = IsUtf8 t
IsReadableValue (val.Blob b) = Unit {0}

-- no float
abbrev pub IsKept : SqlValue → Type 0
IsKept v = (v ≡ value_of (value_in v)) × IsReadableValue (value_in v)

-- ---- rows

-- format 1 has a name there, format 2 the ordinal of a table
abbrev pub IsTableName : Format → List Table → SqlValue → Type 0
IsTableName First ts v = IsText v
IsTableName Second ts v = IsInteger v × (is_some (name_at ts (id_in v)) ≡ true)

-- rowid, tbl or tab, pk, cid, cl, ver, val, site, dbv, seq
pub record IsCellRow (f : Format) (ts : List Table) (r : Row) : Type 0 where
  pub width : length r ≡ 10
  pub table : IsTableName f ts (column r 1)
  pub pk : IsBlob (column r 2)
  pub cid : IsText (column r 3)
  pub cl : IsInteger (column r 4)
  pub col_version : IsInteger (column r 5)
  pub val : IsKept (column r 6)
  pub site : IsSite (column r 7)
  pub version : IsInteger (column r 8)
  pub seq : IsInteger (column r 9)

-- rowid, name, val
pub record IsMetaRow (r : Row) : Type 0 where
  pub width : length r ≡ 3
  pub name : IsText (column r 1)
  pub val : IsKept (column r 2)

abbrev pub meta_of : Row → MetaEntry
meta_of r = record { name = bytes (column r 1); val = value_in (column r 2) }

-- rowid, name, ordinal, crr, def
pub record IsTableRow (r : Row) : Type 0 where
  pub width : length r ≡ 5
  pub name : IsText (column r 1)
  pub ordinal : IsInteger (column r 2)
  pub crr : IsFlag (column r 3)
  pub def : IsBlob (column r 4)

abbrev pub table_of : Row → TableEntry
table_of r = record { ordinal = id_in (column r 2); name = bytes (column r 1); is_replicated = is_one (column r 3); layout = bytes (column r 4) }

-- rowid, site, seen
pub record IsMarkRow (r : Row) : Type 0 where
  pub width : length r ≡ 3
  pub site : IsSite (column r 1)
  pub seen : IsInteger (column r 2)

abbrev pub mark_of : Row → Mark
mark_of r = (bytes (column r 1), id_in (column r 2))

-- ---- orders

unfoldable pub meta_cmp : MetaEntry → MetaEntry → Ordering
meta_cmp = then_cmp (on (λ e. e.name) bytes_cmp) (on (λ e. e.val) value_cmp)

unfoldable pub table_cmp : TableEntry → TableEntry → Ordering
table_cmp = then_cmp (on (λ e. e.ordinal) int_cmp) (then_cmp (on (λ e. e.name) bytes_cmp) (then_cmp (on (λ e. e.is_replicated) bool_cmp) (on (λ e. e.layout) bytes_cmp)))

-- by site, then by version
unfoldable pub seen_cmp : Mark → Mark → Ordering
seen_cmp = then_cmp (on (λ m. m.0) bytes_cmp) (on (λ m. m.1) int_cmp)

-- ---- all rows of a table

-- each rowid is an integer, none comes twice, and each row is such a one
pub record AreStored (P : Row → Type 0) (rows : List Row) : Type 0 where
  pub numbered : AllByRecursion (λ r. IsInteger (rowid r)) rows
  pub apart : AreApart rows
  pub each : AllByRecursion P rows

-- what the rows of cr_meta are read as, by name
abbrev pub meta_entries : Format → List ℕ → ℤ → List MetaEntry
meta_entries f site version =
    record { name = codes "db_version"; val = val.Int version } ∷ record { name = codes "format"; val = val.Int (number_of f) } ∷ record { name = codes "site"; val = val.Blob site } ∷ []

abbrev pub table_entry : ℕ → Table → TableEntry
table_entry n t = record { ordinal = pos n; name = t.definition.name; is_replicated = t.is_replicated; layout = definition t.definition }

-- the tables, counted from a number on
abbrev pub table_entries : ℕ → List Table → List TableEntry
table_entries n [] = []
table_entries n (t ∷ ts) = table_entry n t ∷ table_entries (n + 1) ts
