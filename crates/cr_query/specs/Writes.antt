-- The rows that a write wants. Source: SQLite's documents on INSERT, UPDATE and DELETE; that UPDATE judges keys on the whole
-- new table, and that a key column is never NULL, is this project's own.
use Rattle.std.specs.Prelude.{ℕ, zero, suc, Bool, true, false, not, ◌&&◌, ◌||◌, nat_lt, cond, List, [], ◌∷◌, ◌++◌, length, map, Option, Some, option_map}
use Rattle.std.specs.List.{list_any}
use Rattle.std.specs.Option.{option_and_then}
use Rattle.std.specs.Ordering.{on}
use Rattle.cr_value.specs.declared.value.Value.{Value}
use Rattle.cr_value.specs.Order.{bytes_cmp}
use Rattle.cr_value.specs.Affinity.{applied}
use Rattle.cr_value.specs.Packing.{size_limit}
use Rattle.cr_lattice.specs.declared.table.ColumnDef.{ColumnDef}
use Rattle.cr_lattice.specs.declared.table.TableDef.{TableDef}
use Rattle.cr_lattice.specs.Check.{same_bytes, is_null, is_key_column}
use Rattle.cr_lattice.specs.Rows.{default_of}
use Rattle.cr_lattice.specs.Sets.{set_of}
use Rattle.cr_delta.specs.Key.{cells_of, key_of}
use Rattle.cr_bags.specs.Bags.{each, those}
use Rattle.cr_query.specs.Query.{Row, Meaning, holds}
use Rattle.cr_query.specs.Queries.{Assignment, Insert, Update, Delete}

-- ---- rows

-- the column takes the value, as its affinity wants it
abbrev pub put : List ColumnDef → ℕ → Value → Row → Row
put [] place v row = row
put (col ∷ cols) place v [] = []
put (col ∷ cols) zero v (old ∷ row) = applied col.affinity v ∷ row
put (col ∷ cols) (suc place) v (old ∷ row) = old ∷ put cols place v row

abbrev pub put_all : List ColumnDef → List ℕ → List Value → Row → Row
put_all cols [] vs row = row
put_all cols (p ∷ ps) [] row = row
put_all cols (p ∷ ps) (v ∷ vs) row = put_all cols ps vs (put cols p v row)

abbrev pub defaults : List ColumnDef → Row
defaults cols = map default_of cols

module _ {E : Type 0} (m : Meaning E) where
  abbrev pub values : List E → Row → Option (List Value)
  values es c = each (λ e. m.value e c) es

  -- the row of one tuple
  abbrev pub inserted : List ColumnDef → List ℕ → List E → Option Row
  inserted cols places es = option_map (λ vs. put_all cols places vs (defaults cols)) (values es [])

  -- the rows of VALUES; an ignored INSERT evaluates nothing
  abbrev pub inserted_rows : List ColumnDef → Insert E → Option (List Row)
  inserted_rows cols w = cond w.is_ignored (Some []) (each (inserted cols w.places) w.tuples)

  abbrev pub assigned : List ColumnDef → List (Assignment E) → Row → Option Row
  assigned cols ws row = option_map (λ vs. put_all cols (map (λ a. a.place) ws) vs row) (each (λ a. m.value a.expr row) ws)

  -- a row on which the terms are true, evaluated on the row before; any other stays
  abbrev pub updated : List ColumnDef → Update E → Row → Option Row
  updated cols w row = option_and_then (λ b. cond b (assigned cols w.assignments row) (Some row)) (holds m w.terms row)

  -- the rows that a write wants of a table that shows these
  abbrev pub wanted_by_insert : List ColumnDef → Insert E → List Row → Option (List Row)
  wanted_by_insert cols w rows = option_map (λ more. rows ++ more) (inserted_rows cols w)

  abbrev pub wanted_by_update : List ColumnDef → Update E → List Row → Option (List Row)
  wanted_by_update cols w rows = each (updated cols w) rows

  abbrev pub wanted_by_delete : Delete E → List Row → Option (List Row)
  wanted_by_delete w rows = those (λ row. option_map not (holds m w.terms row)) rows

-- ---- what stands against them

abbrev pub lacks : Bool → ColumnDef × Value → Bool
lacks of_key cell = (is_key_column cell.0 || (not of_key && cell.0.not_null)) && is_null cell.1

-- a key column is NULL, or with the second a NOT NULL column
abbrev pub has_null_key : TableDef → Row → Bool
has_null_key def row = list_any (lacks true) (cells_of def row)

abbrev pub has_null : TableDef → Row → Bool
has_null def row = list_any (lacks false) (cells_of def row)

-- some key can't be packed within its limit
unfoldable pub has_long_key : TableDef → List Row → Bool
has_long_key def rows = list_any (λ row. not (has_null_key def row) && nat_lt size_limit (length (key_of def row))) rows

unfoldable pub lacks_value : TableDef → List Row → Bool
lacks_value def rows = list_any (has_null def) rows

abbrev pub repeats : List (List ℕ) → Bool
repeats [] = false
repeats (k ∷ ks) = list_any (same_bytes k) ks || repeats ks

-- two rows have one key
unfoldable pub has_twice : TableDef → List Row → Bool
has_twice def rows = repeats (map (key_of def) rows)

-- the rows by the bytes of their keys
unfoldable pub by_key : TableDef → List Row → List Row
by_key def rows = set_of (on (key_of def) bytes_cmp) rows
