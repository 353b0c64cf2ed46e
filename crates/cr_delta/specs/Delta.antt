-- The changes of a local write, which lead from the rows before to the rows that are wanted.
-- Source: cr-sqlite's causal length and column versions; which numbers a write gives is this project's own.
use Rattle.std.specs.Prelude.{ℕ, ℤ, pos, ◌+ℤ◌, ◌-◌, ◌^◌, Bool, not, ◌&&◌, ◌||◌, List, ◌∷◌, ◌++◌, map, filter, find, int_lt, if◌then◌else◌}
use Rattle.std.specs.List.{flat_map, list_any}
use Rattle.std.specs.Option.{option_map_or}
use Rattle.std.specs.Ordering.{is_eq}
use Rattle.cr_value.specs.declared.value.Value.{Value}
use Rattle.cr_value.specs.declared.value.Value.TheVariants.{Null}
use Rattle.cr_value.specs.Order.{value_cmp}
use Rattle.cr_lattice.specs.declared.change.Change.{Change}
use Rattle.cr_lattice.specs.declared.table.ColumnDef.{ColumnDef}
use Rattle.cr_lattice.specs.declared.table.TableDef.{TableDef}
use Rattle.cr_lattice.specs.Change.{row_cid, change_cmp}
use Rattle.cr_lattice.specs.Sets.{set_of}
use Rattle.cr_lattice.specs.Check.{same_bytes, is_key_column}
use Rattle.cr_lattice.specs.Rows.{is_of_row, is_alive, is_present, kept_change, column_value}
use Rattle.cr_delta.specs.Key.{cells_of, key_of}

-- the causal length that a row's kept changes share, 0 where nothing of it is kept
unfoldable pub length_of : List Change → List ℕ → List ℕ → ℤ
length_of kept table pk = option_map_or (λ c. c.cl) (find (is_of_row table pk) kept) (pos 0)

-- a column's version, 0 where nothing of it is kept
unfoldable pub version_of : List Change → List ℕ → List ℕ → List ℕ → ℤ
version_of kept table pk cid = option_map_or (λ c. c.col_version) (kept_change kept table pk cid) (pos 0)

-- the columns outside the key, each with the row's value in it
unfoldable pub value_cells : TableDef → List Value → List (ColumnDef × Value)
value_cells def row = filter (λ cell. not (is_key_column cell.0)) (cells_of def row)

-- the column shows another value
abbrev pub differs : List Change → List ℕ → List ℕ → ColumnDef × Value → Bool
differs kept table pk cell = not (is_eq (value_cmp cell.1 (column_value kept table pk cell.0)))

-- a wanted row has the key
unfoldable pub is_wanted : TableDef → List (List Value) → List ℕ → Bool
is_wanted def wanted pk = list_any (λ row. same_bytes (key_of def row) pk) wanted

module _ (def : TableDef) (site : List ℕ) where
  -- the row itself comes or goes
  abbrev pub row_change : List ℕ → ℤ → Change
  row_change pk cl = record { table = def.name; pk = pk; cid = row_cid; val = Null; col_version = cl; site = site; cl = cl }

  -- a column takes a value
  abbrev pub column_change : List ℕ → ℤ → ColumnDef × Value → ℤ → Change
  column_change pk cl cell version = record { table = def.name; pk = pk; cid = cell.0.name; val = cell.1; col_version = version; site = site; cl = cl }

  -- a row comes, with every column
  unfoldable pub arrival : List ℕ → ℤ → List Value → List Change
  arrival pk cl row = row_change pk cl ∷ map (λ cell. column_change pk cl cell (pos 1)) (value_cells def row)

  -- a row stays, and each column that shows another value takes the new one
  unfoldable pub update : List Change → List ℕ → List Value → List Change
  update kept pk row =
      map (λ cell. column_change pk (length_of kept def.name pk) cell (version_of kept def.name pk cell.0.name +ℤ pos 1))
      (filter (differs kept def.name pk) (value_cells def row))

  -- the changes at the key of a wanted row
  unfoldable pub row_delta : List Change → List ℕ → List Value → List Change
  row_delta kept pk row =
      if is_alive kept def.name pk then update kept pk row else arrival pk (length_of kept def.name pk +ℤ pos 1) row

  -- each row that is present and not wanted goes
  unfoldable pub removals : List Change → List (List Value) → List Change
  removals kept wanted =
      map (λ c. row_change c.pk (c.cl +ℤ pos 1)) (filter (λ c. is_present def.name c && not (is_wanted def wanted c.pk)) kept)

  -- all changes of the write, in the order of changes
  unfoldable pub delta : List Change → List (List Value) → List Change
  delta kept wanted = set_of change_cmp (flat_map (λ row. row_delta kept (key_of def row) row) wanted ++ removals kept wanted)

-- past the greatest integer, 9223372036854775807
abbrev pub is_past_limit : ℤ → Bool
is_past_limit n = int_lt (pos (2 ^ 63 - 1)) n

-- some causal length or version passes the greatest integer
unfoldable pub passes_limit : List Change → Bool
passes_limit cs = list_any (λ c. is_past_limit c.cl || is_past_limit c.col_version) cs
