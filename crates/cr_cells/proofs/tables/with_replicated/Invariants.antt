use Rattle.std.proofs.Common.{◌≡◌, map, take}
use Rattle.cr_cells.specs.Tables.{marked}
use Rattle.cr_cells.proofs.tables.with_replicated.Given as goal

abbrev pub invariant-loop-table : goal.invariant-loop-table
invariant-loop-table l = l.out.items ≡ map (marked l.name) (take l.table-index l.tables)
