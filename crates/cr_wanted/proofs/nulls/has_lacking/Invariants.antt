use Rattle.std.proofs.Common.{◌≡◌}
use Rattle.std.specs.List.{list_any}
use Rattle.cr_delta.proofs.Zips.{left_of}
use Rattle.cr_delta.specs.Key.{cells_of}
use Rattle.cr_query.specs.Writes.{lacks}
use Rattle.cr_wanted.proofs.nulls.has_lacking.Given as goal

abbrev pub invariant-loop-column : goal.invariant-loop-column
invariant-loop-column l = list_any (lacks l.of_key) (left_of l.column-iterator) ≡ list_any (lacks l.of_key) (cells_of l.def l.row)
