use Rattle.std.proofs.Common.{◌≡◌}
use Rattle.cr_query.specs.Query.{nulls}
use Rattle.cr_sought.proofs.joined.null_row.Given as goal

abbrev pub invariant-loop-place : goal.invariant-loop-place
invariant-loop-place l = l.values.items ≡ nulls l._place
