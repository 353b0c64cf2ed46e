use Rattle.std.proofs.Common.{◌≡◌, map, take}
use Rattle.cr_snapshot.specs.Seen.{name_of}
use Rattle.cr_session.proofs.tables.names_of.Given as goal

abbrev pub invariant-loop-table : goal.invariant-loop-table
invariant-loop-table l = l.names.items ≡ map name_of (take l.table-index l.joined)
