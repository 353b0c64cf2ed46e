use Rattle.std.proofs.Common.{◌++◌, ◌+◌, ◌*◌, length, map, drop}
use Rattle.cr_scalar.specs.Host.{host}
use Rattle.cr_bags.specs.Bags.{gather}
use Rattle.cr_query.specs.Query.{with_rows}
use Rattle.cr_exec.specs.Answers.{behind}
use Rattle.cr_exec.specs.Combinations.{tail}
use Rattle.cr_exec.specs.Groups.{row_there}
use Rattle.cr_exec.specs.LookUps.{join_of, rows_of}
use Rattle.cr_exec.specs.Scopes.{there}
use Rattle.cr_exec.proofs.Stages.{Gives}
use Rattle.cr_exec.proofs.join.+join.Given as goal

abbrev pub decreases-join_each : goal.decreases-join_each
decreases-join_each g l = 2 * length l.sources.now + 1

abbrev pub decreases-join_rest : goal.decreases-join_rest
decreases-join_rest g l = 2 * length l.sources.now

abbrev pub invariant-join_each-loop-row : goal.invariant-join_each-loop-row
invariant-join_each-loop-row g l =
    Gives (host (g.F.Functions.function_of l.functions) (g.F.Functions.scalar l.functions) (g.F.Functions.step l.functions) (g.F.Functions.finish l.functions) (g.F.Functions.order_of l.functions)) l.params
    (λ m. behind l.out.items (gather (λ r. tail m (map there l.terms) (map join_of l.sources) (map rows_of l.sources) (l.combination ++ row_there r)) (drop l.row-index l.rows)))
    (λ m. behind l.initial.out.items (gather (tail m (map there l.terms) (map join_of l.sources) (map rows_of l.sources)) (with_rows l.combination (map row_there l.rows))))
