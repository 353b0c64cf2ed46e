use Rattle.std.proofs.Common.{◌≡◌, take}
use Rattle.std.specs.Prelude.{filter}
use Rattle.cr_cells.specs.Holding.{is_of_table}
use Rattle.cr_cells.proofs.cells.cells_of_table.Given as goal

abbrev pub invariant-loop-cell : goal.invariant-loop-cell
invariant-loop-cell l = l.out.items ≡ filter (λ s. is_of_table l.table s.change) (take l.cell-index l.cells)
