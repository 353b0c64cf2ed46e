use Rattle.std.proofs.Common.{◌≡◌, map, take}
use Rattle.cr_cells.specs.Tables.{altered}
use Rattle.cr_cells.proofs.tables.with_added.Given as goal

abbrev pub invariant-loop-table : goal.invariant-loop-table
invariant-loop-table l = l.out.items ≡ map (altered l.name l.column) (take l.table-index l.tables)
