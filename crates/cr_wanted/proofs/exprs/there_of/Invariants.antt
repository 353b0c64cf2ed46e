use Rattle.std.proofs.Common.{◌≡◌, take, map}
use Rattle.cr_meaning.specs.View.{plain}
use Rattle.cr_exec.specs.Scopes.{there}
use Rattle.cr_wanted.proofs.exprs.there_of.Given as goal

abbrev pub invariant-loop-expr : goal.invariant-loop-expr
invariant-loop-expr l = map there l.out.items ≡ map plain (take l.expr-index l.exprs)
