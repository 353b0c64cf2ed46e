use Rattle.std.proofs.Common.{◌≡◌, take, map}
use Rattle.cr_scalar.specs.Host.{orders}
use Rattle.cr_exec.specs.Comparisons.{held_order, result_order}
use Rattle.cr_exec.proofs.compare.senses_of_results.Given as goal

abbrev pub invariant-loop-column : goal.invariant-loop-column
invariant-loop-column g l =
    map (held_order (g.F.Functions.order_at l.functions)) l.senses.items ≡ map (result_order (orders (g.F.Functions.order_of l.functions))) (take l.column-index l.results)
