use Rattle.std.proofs.Common.{◌≡◌, take}
use Rattle.std.specs.Prelude.{filter}
use Rattle.cr_lattice.specs.Rows.{is_of_row}
use Rattle.cr_cells.proofs.cells.cells_of.Given as goal

abbrev pub invariant-loop-cell : goal.invariant-loop-cell
invariant-loop-cell l = l.out.items ≡ filter (λ s. is_of_row l.table l.pk s.change) (take l.cell-index l.cells)
