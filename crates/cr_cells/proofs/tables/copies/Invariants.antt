use Rattle.std.proofs.Common.{◌≡◌, take}
use Rattle.cr_cells.proofs.tables.copies.Given as goal

abbrev pub invariant-loop-table : goal.invariant-loop-table
invariant-loop-table l = l.out.items ≡ take l.table-index l.tables
