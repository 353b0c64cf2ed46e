-- When a database is a store, and what it holds.
use Rattle.std.specs.Prelude.{◌≡◌, List, [], map}
use Rattle.std.specs.List.{AllByRecursion}
use Rattle.sqlite.specs.Order.{Row}
use Rattle.sqlite.specs.Effect.{Database}
use Rattle.cr_rows.specs.Rows.{Lists}
use Rattle.cr_lattice.specs.declared.stamped.Stamped.{Stamped}
use Rattle.cr_lattice.specs.declared.table.Table.{Table}
use Rattle.cr_lattice.specs.Sets.{set_of}
use Rattle.cr_cells.specs.Holding.{Holding, cell_cmp}
use Rattle.cr_store.specs.declared.format.Format.{Format}
use Rattle.cr_store.specs.declared.format.Format.TheVariants.{First, Second}
use Rattle.cr_store.specs.Ordinals.{IsNamed}
use Rattle.cr_store.specs.Schema.{schema_of}
use Rattle.cr_store.specs.Rows.{cell_row, cell_of, meta_rows, table_rows, mark_row}

-- The database has the four tables of format 1 and nothing else, and their rows show these, in any order.
pub record HoldsFirst (db : Database) (meta tables cells marks : List Row) : Type 0 where
  pub schema : db.schema ≡ schema_of First
  pub meta_are : Lists (db.trees 0) meta
  pub tables_are : Lists (db.trees 2) tables
  pub cells_are : Lists (db.trees 4) cells
  pub marks_are : Lists (db.trees 6) marks

-- The database has the five tables of format 2 and nothing else, and their rows show these, in any order: old ones are
-- those of cr_cell, cells those of cr_cell2.
pub record Holds (db : Database) (meta tables old cells marks : List Row) : Type 0 where
  pub schema : db.schema ≡ schema_of Second
  pub meta_are : Lists (db.trees 0) meta
  pub tables_are : Lists (db.trees 2) tables
  pub old_are : Lists (db.trees 4) old
  pub cells_are : Lists (db.trees 8) cells
  pub marks_are : Lists (db.trees 6) marks

-- the rows are those of what is held
abbrev pub ShowsIn : Format → Database → Holding → Type 0
ShowsIn First db h = HoldsFirst db (meta_rows First h.site h.version) (table_rows 1 h.tables) (map (cell_row First h.tables) h.cells) (map mark_row h.marks)
ShowsIn Second db h = Holds db (meta_rows Second h.site h.version) (table_rows 1 h.tables) [] (map (cell_row Second h.tables) h.cells) (map mark_row h.marks)

abbrev pub Shows : Database → Holding → Type 0
Shows db h = ShowsIn Second db h

-- the rows of cr_cell2 are those of these cells, whose tables are all among these
pub record HasCells (db : Database) (ts : List Table) (meta tables old marks : List Row) (ss : List Stamped) : Type 0 where
  pub held : Holds db meta tables old (map (cell_row Second ts) ss) marks
  pub named : AllByRecursion (IsNamed ts) ss

-- the cells of the rows, in the order of changes
abbrev pub cells_in : Format → List Table → List Row → List Stamped
cells_in f ts rows = set_of cell_cmp (map (cell_of f ts) rows)
