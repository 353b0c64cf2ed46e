use Rattle.std.proofs.Common.{◌≡◌, ◌++◌, drop}
use Rattle.std.specs.List.{filter_map}
use Rattle.cr_world.specs.Statement.{change_of_row}
use Rattle.cr_received.specs.Received.{first_bad_in}
use Rattle.cr_received.proofs.rows.changes_in.Given as goal

abbrev pub invariant-loop-row : goal.invariant-loop-row
invariant-loop-row l = record {
  bad : first_bad_in l.tables (drop l.row-index l.rows) ≡ first_bad_in l.tables l.rows;
  read : l.changes.items ++ filter_map change_of_row (drop l.row-index l.rows) ≡ filter_map change_of_row l.rows;
}
