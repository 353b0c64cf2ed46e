use Rattle.std.proofs.Common.{◌≡◌, find, take}
use Rattle.std.specs.Option.{option_copied}
use Rattle.cr_cells.specs.Tables.{is_named}
use Rattle.cr_world.specs.State.{by_name}
use Rattle.cr_heard.proofs.keys.table_of.Given as goal

abbrev pub invariant-loop-table : goal.invariant-loop-table
invariant-loop-table l = option_copied l.found ≡ find (is_named l.name) (by_name (take l.table-index l.tables))
