use Rattle.std.proofs.Common.{◌≡◌, drop}
use Rattle.std.specs.List.{list_any}
use Rattle.cr_query.specs.Writes.{has_null}
use Rattle.cr_wanted.proofs.nulls.lacks_value.Given as goal

abbrev pub invariant-loop-row : goal.invariant-loop-row
invariant-loop-row l = list_any (has_null l.def) (drop l.row-index l.rows) ≡ list_any (has_null l.def) l.rows
