use Rattle.std.proofs.Common.{◌≡◌, ◌++◌, drop}
use Rattle.cr_plan.specs.Told.{has_name, places_from}
use Rattle.cr_plan.proofs.Placing.{found_list}
use Rattle.cr_plan.proofs.told.only_table.Given as goal

-- what was found, and the tables of the name among those that are left
abbrev pub invariant-loop-table : goal.invariant-loop-table
invariant-loop-table l = places_from 0 (has_name l.name) l.joined ≡ found_list l.found ++ places_from l.start (has_name l.name) (drop l.table-index l.joined)
