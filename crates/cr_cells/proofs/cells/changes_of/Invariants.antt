use Rattle.std.proofs.Common.{◌≡◌, take}
use Rattle.cr_cells.specs.Holding.{changes_of}
use Rattle.cr_cells.proofs.cells.changes_of.Given as goal

abbrev pub invariant-loop-cell : goal.invariant-loop-cell
invariant-loop-cell l = l.out.items ≡ changes_of (take l.cell-index l.cells)
