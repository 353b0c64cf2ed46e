use Rattle.std.proofs.Common.{◌≡◌, take, map}
use Rattle.cr_exec.specs.Scopes.{there}
use Rattle.cr_wanted.specs.Rows.{assigned_expr}
use Rattle.cr_wanted.proofs.exprs.exprs_of.Given as goal

abbrev pub invariant-loop-assignment : goal.invariant-loop-assignment
invariant-loop-assignment l = map there l.out.items ≡ map assigned_expr (take l.assignment-index l.assignments)
