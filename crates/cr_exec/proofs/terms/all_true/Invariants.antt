use Rattle.std.proofs.Common.{drop, map}
use Rattle.cr_scalar.specs.Host.{host}
use Rattle.cr_query.specs.Query.{all_true}
use Rattle.cr_exec.specs.Scopes.{there}
use Rattle.cr_exec.proofs.Stages.{Gives}
use Rattle.cr_exec.proofs.terms.all_true.Given as goal

abbrev pub invariant-loop-term : goal.invariant-loop-term
invariant-loop-term g l =
    Gives (host (g.F.Functions.function_of l.functions) (g.F.Functions.scalar l.functions) (g.F.Functions.step l.functions) (g.F.Functions.finish l.functions) (g.F.Functions.order_of l.functions)) l.params (λ m. all_true m (map there (drop l.term-index l.terms)) l.row) (λ m. all_true m (map there l.terms) l.row)
