use Rattle.std.proofs.Common.{ap, ◌∙◌}
use Rattle.cr_value.specs.Order.{bytes_cmp}
use Rattle.cr_value.specs.OrderLaws.{bytes_total, bytes_exact}
use Rattle.cr_lattice.specs.Sets.{set_of}
use Rattle.cr_lattice.proofs.SortedSets.{sorted_set}
use Rattle.cr_cells.proofs.page.keys_of.Goals as goal

pub returns : goal.returns
returns c =
    sorted_set bytes_total bytes_exact _ _ _ c.in_ok-sort.ensures.permutation c.in_ok-sort.ensures.sorted c.dedup.ensures.filtered
    ∙ ap (set_of bytes_cmp) c.in_ok-keys.ensures
