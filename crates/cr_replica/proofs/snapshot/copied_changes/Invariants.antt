use Rattle.std.proofs.Common.{◌≡◌, map, take}
use Rattle.cr_replica.proofs.snapshot.copied_changes.Given as goal

abbrev pub invariant-loop-cell : goal.invariant-loop-cell
invariant-loop-cell l = l.changes.items ≡ map (λ s. s.change) (take l.cell-index l.cells)
