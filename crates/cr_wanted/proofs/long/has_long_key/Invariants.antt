use Rattle.std.proofs.Common.{◌≡◌, ◌&&◌, not, nat_lt, length, drop}
use Rattle.std.specs.List.{list_any}
use Rattle.cr_value.specs.Packing.{size_limit}
use Rattle.cr_delta.specs.Key.{key_of}
use Rattle.cr_query.specs.Writes.{has_null_key}
use Rattle.cr_wanted.proofs.long.has_long_key.Given as goal

abbrev pub invariant-loop-row : goal.invariant-loop-row
invariant-loop-row l =
    list_any (λ r. not (has_null_key l.def r) && nat_lt size_limit (length (key_of l.def r))) (drop l.row-index l.rows) ≡ list_any (λ r. not (has_null_key l.def r) && nat_lt size_limit (length (key_of l.def r))) l.rows
