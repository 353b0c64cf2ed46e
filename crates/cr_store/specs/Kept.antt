-- What a store keeps true of its connection.
use Rattle.std.specs.Prelude.{◌≡◌, false, IsTrue}
use Rattle.sqlite.specs.Effect.{Database}
use Rattle.sqlite.specs.State.{HasCleanDisk}
use Rattle.sqlite.specs.Held.{Held, state}
use Rattle.sqlite_trees.specs.declared.store.Store.{Ghosts}
use Rattle.cr_cells.specs.Holding.{Holding, IsSound}
use Rattle.cr_store.specs.declared.format.Format.TheVariants.{Second}
use Rattle.cr_store.specs.declared.known.Known.{Known}
use Rattle.cr_store.specs.Shows.{Shows, cells_in}

-- what a store holds: the cells that the rows of cr_cell2 show, and the rest as it knows it
abbrev pub holding_of : Database → Known → Holding
holding_of db k = record { tables = k.tables.items; site = k.site; version = k.version; cells = cells_in Second k.tables.items (db.trees 8); marks = k.marks.items }

-- the disk gave back what was written, and is still there
pub record IsClean {S : Type 0} (g : Ghosts S) (h : Held S) : Type 0 where
  pub clean : HasCleanDisk (state g h)
  pub is_open : IsTrue (state g h).is_open

-- Between calls there is no transaction, and while the disk is clean and open its tables show what the store holds, and
-- that is sound.
pub record IsKeptIn {S : Type 0} (g : Ghosts S) (h : Held S) (k : Known) : Type 0 where
  pub auto : h.in_transaction ≡ false
  pub shows : IsClean g h → Shows (state g h).now (holding_of (state g h).now k)
  pub sound : IsClean g h → IsSound (holding_of (state g h).now k)
