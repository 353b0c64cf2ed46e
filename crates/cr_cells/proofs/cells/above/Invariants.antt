use Rattle.std.proofs.Common.{◌≡◌, take}
use Rattle.std.specs.Prelude.{filter, int_lt}
use Rattle.cr_cells.proofs.cells.above.Given as goal

abbrev pub invariant-loop-cell : goal.invariant-loop-cell
invariant-loop-cell l = l.out.items ≡ filter (λ s. int_lt l.version s.version) (take l.cell-index l.cells)
