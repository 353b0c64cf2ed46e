-- What the plain store holds.
use Rattle.cr_cells.specs.declared.plain.PlainCells.TheInside.{Inside}
use Rattle.cr_cells.specs.Holding.{Holding, IsSound}

abbrev pub holding_of : Inside → Holding
holding_of s = record { tables = s.tables.items; site = s.site; version = s.version; cells = s.cells.items; marks = s.marks.items }

abbrev pub IsKept : Inside → Type 0
IsKept s = IsSound (holding_of s)
