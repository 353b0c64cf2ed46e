use Rattle.std.proofs.Common.{◌≡◌, take}
use Rattle.std.specs.Prelude.{filter}
use Rattle.cr_touched.specs.Tables.{is_of_one}
use Rattle.cr_pending.proofs.tables.of_tables.Given as goal

abbrev pub invariant-loop-change : goal.invariant-loop-change
invariant-loop-change l = l.found.items ≡ filter (is_of_one l.tables) (take l.change-index l.changes)
