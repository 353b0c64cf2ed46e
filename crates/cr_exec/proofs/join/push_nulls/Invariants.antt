use Rattle.std.proofs.Common.{◌≡◌, ◌++◌}
use Rattle.cr_query.specs.Query.{nulls}
use Rattle.cr_exec.proofs.join.push_nulls.Given as goal

abbrev pub invariant-loop-place : goal.invariant-loop-place
invariant-loop-place l = l.out.items ≡ l.initial.out.items ++ nulls l._place
