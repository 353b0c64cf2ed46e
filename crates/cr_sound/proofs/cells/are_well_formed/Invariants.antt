use Rattle.std.proofs.Common.{take}
use Rattle.cr_cells.specs.Holding.{changes_of}
use Rattle.cr_cells.specs.Tables.{AreWellFormed}
use Rattle.cr_sound.proofs.cells.are_well_formed.Given as goal

abbrev pub invariant-loop-cell : goal.invariant-loop-cell
invariant-loop-cell l = AreWellFormed l.tables (changes_of (take l.cell-index l.cells))
