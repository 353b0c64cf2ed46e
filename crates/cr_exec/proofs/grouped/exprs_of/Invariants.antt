use Rattle.std.proofs.Common.{◌≡◌, take, map}
use Rattle.cr_exec.specs.Groups.{group_expr}
use Rattle.cr_exec.specs.Scopes.{there}
use Rattle.cr_exec.proofs.grouped.exprs_of.Given as goal

abbrev pub invariant-loop-term : goal.invariant-loop-term
invariant-loop-term l = map there l.exprs.items ≡ map group_expr (take l.term-index l.terms)
