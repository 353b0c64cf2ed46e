use Rattle.std.proofs.Common.{◌≡◌, take, map}
use Rattle.cr_exec.specs.Groups.{result_expr}
use Rattle.cr_exec.specs.Scopes.{there}
use Rattle.cr_exec.proofs.select.exprs_of_results.Given as goal

abbrev pub invariant-loop-column : goal.invariant-loop-column
invariant-loop-column l = map there l.exprs.items ≡ map result_expr (take l.column-index l.results)
