use Rattle.std.proofs.Common.{◌≡◌, drop}
use Rattle.cr_resolve.specs.Known.{table_at}
use Rattle.cr_resolve.proofs.known.find_table.Given as goal

abbrev pub invariant-loop-place : goal.invariant-loop-place
invariant-loop-place l = table_at l.name l.place (drop l.place l.tables) ≡ table_at l.name 0 l.tables
