-- The rows of a store's tables. Source: this project's own formats 1 and 2.
use Rattle.std.specs.Prelude.{ℕ, ◌+◌, ℤ, pos, Bool, true, false, List, [], ◌∷◌, codes, unwrap_or}
use Rattle.sqlite.specs.declared.types.Value.{Value as SqlValue}
use Rattle.sqlite.specs.declared.types.Value.TheVariants as sql
use Rattle.sqlite.specs.Order.{Row}
use Rattle.sqlite_value.specs.Order.{bytes, column}
use Rattle.sqlite_rules.specs.Edit.{id_in}
use Rattle.cr_value.specs.declared.value.Value.{Value}
use Rattle.cr_value.specs.declared.value.Value.TheVariants as val
use Rattle.cr_lattice.specs.declared.stamped.Stamped.{Stamped}
use Rattle.cr_lattice.specs.declared.table.Table.{Table}
use Rattle.cr_cells.specs.Marks.{Mark}
use Rattle.cr_layout.specs.Definition.{definition}
use Rattle.cr_store.specs.declared.format.Format.{Format}
use Rattle.cr_store.specs.declared.format.Format.TheVariants.{First, Second}
use Rattle.cr_store.specs.Ordinals.{ordinal, name_at}

-- ---- cr_cell and cr_cell2

-- how a cell's row names the cell's table: format 1 by its name, format 2 by its ordinal
abbrev pub named_as : Format → List Table → List ℕ → SqlValue
named_as First ts name = sql.Text name
named_as Second ts name = sql.Int (ordinal ts name)

-- the name that is meant
abbrev pub name_in : Format → List Table → SqlValue → List ℕ
name_in First ts v = bytes v
name_in Second ts v = unwrap_or (name_at ts (id_in v)) []

-- a value as sqlite holds it
abbrev pub value_of : Value → SqlValue
value_of val.Null = sql.Null
value_of (val.Int n) = sql.Int n
value_of (val.Text t) = sql.Text t
value_of (val.Blob b) = sql.Blob b

-- tbl or tab, pk, cid, cl, ver, val, site, dbv, seq
abbrev pub cell_row : Format → List Table → Stamped → Row
cell_row f ts s =
    named_as f ts s.change.table ∷ sql.Blob s.change.pk ∷ sql.Text s.change.cid ∷ sql.Int s.change.cl ∷ sql.Int s.change.col_version ∷ value_of s.change.val
    ∷ sql.Blob s.change.site ∷ sql.Int s.version ∷ sql.Int s.seq ∷ []

-- the value that sqlite holds: a store has no floats
abbrev pub value_in : SqlValue → Value
value_in sql.Null = val.Null
value_in (sql.Int n) = val.Int n
value_in (sql.Real x) = val.Null
value_in (sql.Text t) = val.Text t
value_in (sql.Blob b) = val.Blob b

-- the cell of a row that begins with its rowid
abbrev pub cell_of : Format → List Table → Row → Stamped
cell_of f ts r = record {
  change = record {
    table = name_in f ts (column r 1);
    pk = bytes (column r 2);
    cid = bytes (column r 3);
    cl = id_in (column r 4);
    col_version = id_in (column r 5);
    val = value_in (column r 6);
    site = bytes (column r 7);
  };
  version = id_in (column r 8);
  seq = id_in (column r 9);
}

-- ---- cr_meta

abbrev pub number_of : Format → ℤ
number_of First = pos 1
number_of Second = pos 2

-- the format, the site and the version
abbrev pub meta_rows : Format → List ℕ → ℤ → List Row
meta_rows f site version =
    (sql.Text (codes "format") ∷ sql.Int (number_of f) ∷ []) ∷ (sql.Text (codes "site") ∷ sql.Blob site ∷ []) ∷ (sql.Text (codes "db_version") ∷ sql.Int version ∷ []) ∷ []

-- ---- cr_schema

abbrev pub one_if : Bool → ℤ
one_if true = pos 1
one_if false = pos 0

-- name, ordinal, crr, def
abbrev pub table_row : ℕ → Table → Row
table_row ordinal t =
    sql.Text t.definition.name ∷ sql.Int (pos ordinal) ∷ sql.Int (one_if t.is_replicated) ∷ sql.Blob (definition t.definition) ∷ []

-- the tables, counted from a number on
abbrev pub table_rows : ℕ → List Table → List Row
table_rows n [] = []
table_rows n (t ∷ ts) = table_row n t ∷ table_rows (n + 1) ts

-- ---- cr_peer

-- site, seen
abbrev pub mark_row : Mark → Row
mark_row m = sql.Blob m.0 ∷ sql.Int m.1 ∷ []
