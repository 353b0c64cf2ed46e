use Rattle.std.proofs.Common.{◌≡◌, take}
use Rattle.std.specs.List.{flat_map}
use Rattle.cr_guard.specs.Heard.{heard_of}
use Rattle.cr_guard.proofs.heard.heard_of_tables.Given as goal

abbrev pub invariant-loop-table : goal.invariant-loop-table
invariant-loop-table l = l.events.items ≡ flat_map heard_of (take l.table-index l.tables)
