use Rattle.std.proofs.Common.{◌≡◌, take, map}
use Rattle.cr_scalar.specs.Host.{orders}
use Rattle.cr_exec.specs.Comparisons.{held_order, term_order}
use Rattle.cr_exec.proofs.compare.senses_of_order.Given as goal

abbrev pub invariant-loop-term : goal.invariant-loop-term
invariant-loop-term g l =
    map (held_order (g.F.Functions.order_at l.functions)) l.senses.items ≡ map (term_order (orders (g.F.Functions.order_of l.functions))) (take l.term-index l.terms)
