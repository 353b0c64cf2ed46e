use Rattle.std.specs.FinSet.{slice_cmp-IsAntisymmetric}
use Rattle.std.proofs.lemmas.Cmp.{lists_total}
use Rattle.cr_value.specs.OrderLaws.{value_total, value_exact}
use Rattle.cr_lattice.proofs.SortedSets.{sorted_set}
use Rattle.cr_replica.specs.Showing.{in_order}
use Rattle.cr_replica.proofs.sorting.in_order.Goals as goal

pub returns : goal.returns
unfolding in_order
returns c =
    sorted_set (lists_total value_total) (slice_cmp-IsAntisymmetric value_exact) _ _ _ c.in_ok-sort.ensures.permutation c.in_ok-sort.ensures.sorted c.dedup.ensures.filtered
