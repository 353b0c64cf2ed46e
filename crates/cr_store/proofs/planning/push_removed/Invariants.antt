use Rattle.std.proofs.Common.{◌≡◌, ◌++◌, take}
use Rattle.std.specs.Prelude.{filter}
use Rattle.cr_cells.specs.Holding.{changes_of}
use Rattle.cr_store.specs.Plan.{removes}
use Rattle.cr_store.proofs.planning.push_removed.Given as goal

abbrev pub invariant-loop-cell : goal.invariant-loop-cell
invariant-loop-cell l = l.gone.items ≡ l.fn.gone.items ++ filter (removes l.change) (changes_of (take l.cell-index l.row))
