-- Pages: the cells of the first keys of a table above a key. Source: this project's own.
use Rattle.std.specs.Prelude.{◌≡◌, ◌≤◌, ℕ, Bool, true, ◌&&◌, List, length, map, filter, Option, Some, None}
use Rattle.std.specs.Ordering.{is_lt, is_le}
use Rattle.std.specs.List.{list_any}
use Rattle.std.specs.Option.{ForSome}
use Rattle.cr_value.specs.Order.{bytes_cmp}
use Rattle.cr_lattice.specs.declared.stamped.Stamped.{Stamped}
use Rattle.cr_lattice.specs.Check.{same_bytes}
use Rattle.cr_lattice.specs.Rows.{keys_in_order}
use Rattle.cr_cells.specs.declared.page.Page.{Page}

-- the key is greater; each key is where none is given
abbrev pub above : Option (List ℕ) → List ℕ → Bool
above None pk = true
above (Some after) pk = is_lt (bytes_cmp after pk)

-- the key is not greater; no key is where none is given
abbrev pub up_to : Option (List ℕ) → List ℕ → Bool
up_to None pk = true
up_to (Some bound) pk = is_le (bytes_cmp pk bound)

-- from above the one key up to the other
abbrev pub between : Option (List ℕ) → Option (List ℕ) → List ℕ → Bool
between after bound pk = above after pk && up_to bound pk

-- a cell of the table whose key passes
abbrev pub is_at : List ℕ → (List ℕ → Bool) → Stamped → Bool
is_at table passes s = same_bytes s.change.table table && passes s.change.pk

-- the keys of cells, by their bytes, each once
abbrev pub keys_of : List Stamped → List (List ℕ)
keys_of cells = keys_in_order (map (λ s. s.change.pk) cells)

-- at least as many keys as are asked for, unless the page has no end
abbrev pub HasKeys : Option (List ℕ) → ℕ → List Stamped → Type 0
HasKeys bound limit cells = ForSome bound (λ b. limit ≤ length (keys_of cells))

-- The page after a key: the table's cells from above that key up to the page's end, those of at least as many keys as are asked
-- for. Without an end it is the last page, with all cells that are left.
pub record IsPage (cells : List Stamped) (table : List ℕ) (after : Option (List ℕ)) (limit : ℕ) (page : Page) : Type 0 where
  pub cells_are : page.cells.items ≡ filter (is_at table (between after page.bound)) cells
  pub keys : HasKeys page.bound limit page.cells.items

-- the first of these cells, those of at least as many keys as are asked for, up to a key that one of them has; all where there is
-- no such end
pub record IsCut (cells : List Stamped) (limit : ℕ) (page : Page) : Type 0 where
  pub cells_are : page.cells.items ≡ filter (λ s. up_to page.bound s.change.pk) cells
  pub keys : HasKeys page.bound limit page.cells.items
  pub bound : ForSome page.bound (λ b. list_any (λ s. same_bytes b s.change.pk) cells ≡ true)
