-- What databases show. Source: this project's own.
use Rattle.std.specs.Prelude.{◌≡◌}
use Rattle.std.specs.List.{AllByRecursion}
use Rattle.sqlite.specs.Effect.{Database}
use Rattle.cr_cells.specs.Holding.{Holding}
use Rattle.cr_store.specs.Opening.{IsReadableTable, IsHeld}

-- a database holds one holding at most, where bytes tell the definitions of its tables wholly
abbrev pub HoldsOne : Type 0
HoldsOne = (db : Database) (g h : Holding) → IsHeld db g → IsHeld db h → AllByRecursion IsReadableTable g.tables → AllByRecursion IsReadableTable h.tables → g ≡ h
