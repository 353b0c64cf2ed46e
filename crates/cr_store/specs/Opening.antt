-- When a database is opened as a store. Source: this project's own.
use Rattle.std.specs.Prelude.{◌≡◌, List, [], map, length}
use Rattle.std.specs.List.{AllByRecursion}
use Rattle.std.specs.Str.{IsUtf8}
use Rattle.sqlite.specs.Order.{Row}
use Rattle.sqlite.specs.Effect.{Database}
use Rattle.cr_rows.specs.Rows.{Lists}
use Rattle.cr_lattice.specs.declared.stamped.Stamped.{Stamped}
use Rattle.cr_lattice.specs.declared.table.Table.{Table}
use Rattle.cr_layout.specs.Written.{IsWritten}
use Rattle.cr_cells.specs.declared.store.CellsError.{CellsError}
use Rattle.cr_cells.specs.declared.store.CellsError.TheVariants as error
use Rattle.cr_cells.specs.declared.store.StoreFault.TheVariants as fault
use Rattle.cr_cells.specs.Holding.{Holding, IsSound}
use Rattle.cr_cells.specs.Marks.{Mark}
use Rattle.cr_store.specs.Rows.{cell_row, meta_rows, table_rows, mark_row}
use Rattle.cr_store.specs.declared.format.Format.{Format}
use Rattle.cr_store.specs.declared.known.Known.{Known}
use Rattle.cr_store.specs.Shows.{ShowsIn}
use Rattle.cr_store.specs.Stored.{IsReadableValue}

-- ---- what a value in memory is

-- texts in UTF-8, and a site of 16 bytes
pub record IsReadableCell (s : Stamped) : Type 0 where
  pub table : IsUtf8 s.change.table
  pub cid : IsUtf8 s.change.cid
  pub val : IsReadableValue s.change.val
  pub site : length s.change.site ≡ 16

-- the name in UTF-8, and a definition that its bytes tell wholly
pub record IsReadableTable (t : Table) : Type 0 where
  pub name : IsUtf8 t.definition.name
  pub written : IsWritten t.definition

abbrev pub IsReadableMark : Mark → Type 0
IsReadableMark m = length m.0 ≡ 16

-- what a store in memory can hold: texts in UTF-8, sites of 16 bytes, and definitions that can be written
pub record IsReadable (h : Holding) : Type 0 where
  pub tables : AllByRecursion IsReadableTable h.tables
  pub site : length h.site ≡ 16
  pub cells : AllByRecursion IsReadableCell h.cells
  pub marks : AllByRecursion IsReadableMark h.marks

-- ---- errors

-- damage, and then this, or want of memory
abbrev pub IsDamage : Type 0 → CellsError → Type 0
IsDamage P error.Memory = Unit {0}
IsDamage P (error.Store f) = (f ≡ fault.Damaged) × P
IsDamage P error.VersionLimit = ⊥

-- the store is damaged, or a cause of the store's own, or want of memory
abbrev pub IsOpenError : CellsError → Type 0
IsOpenError error.Memory = Unit {0}
IsOpenError (error.Store fault.Taken) = ⊥
IsOpenError (error.Store fault.Damaged) = Unit {0}
IsOpenError (error.Store fault.Refused) = Unit {0}
IsOpenError error.VersionLimit = ⊥

-- ---- what is held

-- the database shows it in a format, and it is sound
pub record IsHeldIn (f : Format) (db : Database) (h : Holding) : Type 0 where
  pub shows : ShowsIn f db h
  pub sound : IsSound h

-- in one of the formats
abbrev pub IsHeld : Database → Holding → Type 0
IsHeld db h = (f : Format) × IsHeldIn f db h

-- damaged is said of a database only where it holds nothing that could be read
abbrev pub FailsToOpen : Database → CellsError → Type 0
FailsToOpen db error.Memory = Unit {0}
FailsToOpen db (error.Store fault.Taken) = ⊥
FailsToOpen db (error.Store fault.Damaged) = (h : Holding) → IsReadable h → ¬ IsHeld db h
FailsToOpen db (error.Store fault.Refused) = Unit {0}
FailsToOpen db error.VersionLimit = ⊥

-- the rows of a store's tables in a format, of which none are old ones
pub record ListsAll (f : Format) (meta tables old cells marks : List Row) (h : Holding) : Type 0 where
  pub meta_are : Lists meta (meta_rows f h.site h.version)
  pub tables_are : Lists tables (table_rows 1 h.tables)
  pub old_are : old ≡ []
  pub cells_are : Lists cells (map (cell_row f h.tables) h.cells)
  pub marks_are : Lists marks (map mark_row h.marks)

-- what is known of a store, beside these cells
abbrev pub holding_with : Known → List Stamped → Holding
holding_with k ss = record { tables = k.tables.items; site = k.site; version = k.version; cells = ss; marks = k.marks.items }

-- the rows list what is known with these cells, and that is sound, and its definitions those that bytes tell
pub record IsKnown (f : Format) (meta tables old cells marks : List Row) (k : Known) (ss : List Stamped) : Type 0 where
  pub listed : ListsAll f meta tables old cells marks (holding_with k ss)
  pub sound : IsSound (holding_with k ss)
  pub readable : AllByRecursion IsReadableTable k.tables.items
