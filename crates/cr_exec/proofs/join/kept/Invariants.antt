use Rattle.std.proofs.Common.{◌≡◌, ◌++◌, map}
use Rattle.std.specs.Vec.Iter.{into_iter_items}
use Rattle.cr_scalar.specs.Host.{host}
use Rattle.cr_bags.specs.Bags.{those}
use Rattle.cr_query.specs.Query.{all_true}
use Rattle.cr_exec.specs.Answers.{IsMeant}
use Rattle.cr_exec.specs.Scopes.{there}
use Rattle.cr_exec.proofs.join.kept.Given as goal

abbrev pub invariant-loop-row : goal.invariant-loop-row
invariant-loop-row g l = record {
  whole : l.yielded ++ into_iter_items l.row-iterator ≡ l.fn.rows.items;
  kept : IsMeant (host (g.F.Functions.function_of l.functions) (g.F.Functions.scalar l.functions) (g.F.Functions.step l.functions) (g.F.Functions.finish l.functions) (g.F.Functions.order_of l.functions)) l.params (λ m. those (all_true m (map there l.terms)) l.yielded) l.out.items;
}
