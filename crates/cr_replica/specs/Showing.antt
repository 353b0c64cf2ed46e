-- The rows that a replica shows. Source: this project's own; values stand in the order of SQLite's BINARY collation.
use Rattle.std.specs.Prelude.{◌≡◌, Bool, true, false, List, [], Option, Some, None, Result, Ok, Err, if◌then◌else◌}
use Rattle.std.specs.declared.cmp.Ordering.{Ordering}
use Rattle.std.specs.Cmp.Lexicographic.{slice_cmp}
use Rattle.cr_value.specs.declared.value.Value.{Value}
use Rattle.cr_value.specs.Order.{value_cmp}
use Rattle.cr_lattice.specs.declared.table.Table.{Table}
use Rattle.cr_lattice.specs.Sets.{set_of}
use Rattle.cr_lattice.specs.Rows.{rows}
use Rattle.cr_cells.specs.declared.store.StoreFault.TheVariants as store
use Rattle.cr_cells.specs.declared.store.CellsError.{CellsError}
use Rattle.cr_cells.specs.declared.store.CellsError.TheVariants as cells
use Rattle.cr_cells.specs.Holding.{Holding, kept_of}
use Rattle.cr_replica.specs.declared.replica.RowsError.{RowsError}
use Rattle.cr_replica.specs.declared.replica.RowsError.TheVariants.{Memory, Store, NoSuchTable}

-- value by value
abbrev pub row_cmp : List Value → List Value → Ordering
row_cmp = slice_cmp value_cmp

-- the rows in ascending order, each once
unfoldable pub in_order : List (List Value) → List (List Value)
in_order rs = set_of row_cmp rs

-- a table that isn't replicated has no rows
abbrev pub shown_of : Holding → Table → List (List Value)
shown_of h t = if t.is_replicated then in_order (rows (kept_of h) t.definition) else []

-- the rows of the table of that name, in ascending order; the name is refused where no table has it
abbrev pub Shows : Holding → Option Table → Result (List (List Value)) RowsError → Type 0
Shows h None (Ok rs) = ⊥
Shows h (Some t) (Ok rs) = rs ≡ shown_of h t
Shows h t (Err Memory) = Unit {0}
Shows h t (Err (Store f)) = f ≡ store.Refused
Shows h t (Err NoSuchTable) = t ≡ None

-- memory or the store does not suffice
abbrev pub is_want : RowsError → Bool
is_want Memory = true
is_want (Store f) = true
is_want NoSuchTable = false

-- how a store's refusal is passed on
abbrev pub of_store : CellsError → RowsError
of_store cells.Memory = Memory
of_store (cells.Store f) = Store f
of_store cells.VersionLimit = Store store.Refused
