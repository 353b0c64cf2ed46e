use Rattle.std.proofs.Common.{take}
use Rattle.std.specs.List.{AllByRecursion}
use Rattle.cr_guard.specs.Heard.{HasRowsByKey}
use Rattle.cr_guard.proofs.heard.have_rows_by_key.Given as goal

abbrev pub invariant-loop-table : goal.invariant-loop-table
invariant-loop-table l = AllByRecursion HasRowsByKey (take l.table-index l.tables)
