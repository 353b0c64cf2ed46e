use Rattle.std.proofs.Common.{take}
use Rattle.std.specs.List.{AllByRecursion}
use Rattle.cr_session.specs.Joining.{IsTableOf}
use Rattle.cr_session.proofs.joining.are_tables_of.Given as goal

abbrev pub invariant-loop-table : goal.invariant-loop-table
invariant-loop-table l = AllByRecursion (IsTableOf l.tables) (take l.table-index l.joined)
