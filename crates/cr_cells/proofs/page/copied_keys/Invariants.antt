use Rattle.std.proofs.Common.{◌≡◌, take, map}
use Rattle.cr_cells.proofs.page.copied_keys.Given as goal

abbrev pub invariant-loop-cell : goal.invariant-loop-cell
invariant-loop-cell l = l.keys.items ≡ map (λ s. s.change.pk) (take l.cell-index l.cells)
