use Rattle.std.proofs.Common.{drop, map, option_map}
use Rattle.cr_scalar.specs.Host.{host}
use Rattle.cr_bags.specs.Bags.{gather, each, single}
use Rattle.cr_query.specs.Query.{pair}
use Rattle.cr_exec.specs.Answers.{behind}
use Rattle.cr_exec.specs.Scopes.{there}
use Rattle.cr_exec.specs.Shows.{shown_of}
use Rattle.cr_exec.proofs.Stages.{Gives}
use Rattle.cr_exec.proofs.show.show_each.Given as goal

abbrev pub invariant-loop-combination : goal.invariant-loop-combination
invariant-loop-combination g l =
    Gives (host (g.F.Functions.function_of l.functions) (g.F.Functions.scalar l.functions) (g.F.Functions.step l.functions) (g.F.Functions.finish l.functions) (g.F.Functions.order_of l.functions)) l.params (λ m. behind (map shown_of l.out.items) (gather (λ c. option_map single (pair (each (λ e. m.value e c) (map there l.results)) (each (λ e. m.value e c) (map there l.keys)))) (drop l.combination-index l.combinations)))
    (λ m. each (λ c. pair (each (λ e. m.value e c) (map there l.results)) (each (λ e. m.value e c) (map there l.keys))) l.combinations)
