use Rattle.std.proofs.Common.{drop, map, option_map}
use Rattle.cr_scalar.specs.Host.{host}
use Rattle.cr_bags.specs.Bags.{gather, each, single}
use Rattle.cr_exec.specs.Answers.{behind}
use Rattle.cr_exec.specs.Scopes.{in_scope, there}
use Rattle.cr_exec.proofs.Stages.{Gives}
use Rattle.cr_exec.proofs.value.values_in.Given as goal

abbrev pub invariant-loop-expr : goal.invariant-loop-expr
invariant-loop-expr g l =
    Gives (host (g.F.Functions.function_of l.functions) (g.F.Functions.scalar l.functions) (g.F.Functions.step l.functions) (g.F.Functions.finish l.functions) (g.F.Functions.order_of l.functions)) l.params (λ m. behind l.values.items (gather (λ e. option_map single (in_scope m l.scope (there e))) (drop l.expr-index l.exprs))) (λ m. each (in_scope m l.scope) (map there l.exprs))
