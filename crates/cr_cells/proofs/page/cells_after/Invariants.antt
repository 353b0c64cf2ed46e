use Rattle.std.proofs.Common.{◌≡◌, take}
use Rattle.std.specs.Prelude.{filter}
use Rattle.std.specs.Option.{option_copied}
use Rattle.cr_cells.specs.Pages.{above, is_at}
use Rattle.cr_cells.proofs.page.cells_after.Given as goal

abbrev pub invariant-loop-cell : goal.invariant-loop-cell
invariant-loop-cell l = l.out.items ≡ filter (is_at l.table (above (option_copied l.after))) (take l.cell-index l.cells)
