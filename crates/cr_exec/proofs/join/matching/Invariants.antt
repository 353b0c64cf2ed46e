use Rattle.std.proofs.Common.{◌++◌, drop, map}
use Rattle.cr_scalar.specs.Host.{host}
use Rattle.cr_bags.specs.Bags.{gather, those, single}
use Rattle.cr_query.specs.Query.{all_true, with_rows}
use Rattle.cr_exec.specs.Answers.{behind}
use Rattle.cr_exec.specs.Groups.{row_there}
use Rattle.cr_exec.specs.Scopes.{there}
use Rattle.cr_exec.proofs.Stages.{Gives}
use Rattle.cr_exec.proofs.join.matching.Given as goal

abbrev pub invariant-loop-row : goal.invariant-loop-row
invariant-loop-row g l =
    Gives (host (g.F.Functions.function_of l.functions) (g.F.Functions.scalar l.functions) (g.F.Functions.step l.functions) (g.F.Functions.finish l.functions) (g.F.Functions.order_of l.functions)) l.params
    (λ m. behind l.out.items (gather (λ r. those (all_true m (map there l.terms)) (single (l.combination ++ row_there r))) (drop l.row-index l.rows)))
    (λ m. those (all_true m (map there l.terms)) (with_rows l.combination (map row_there l.rows)))
