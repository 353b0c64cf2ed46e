use Rattle.std.proofs.Common.{◌≡◌, Some, take}
use Rattle.std.specs.Prelude.{filter}
use Rattle.std.specs.Option.{option_copied}
use Rattle.cr_cells.specs.Pages.{between, is_at}
use Rattle.cr_cells.proofs.page.cells_between.Given as goal

abbrev pub invariant-loop-cell : goal.invariant-loop-cell
invariant-loop-cell l = l.out.items ≡ filter (is_at l.table (between (option_copied l.after) (Some l.end))) (take l.cell-index l.cells)
