use Rattle.std.proofs.Common.{◌≡◌, map}
use Rattle.cr_exec.specs.Shows.{row_of}
use Rattle.cr_exec.proofs.order.rows_of.Given as goal

abbrev pub invariant-loop-one : goal.invariant-loop-one
invariant-loop-one l = l.rows.items ≡ map row_of l.yielded
