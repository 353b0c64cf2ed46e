use Rattle.std.proofs.Common.{◌∙◌, map, rules}
use Rattle.std.specs.Ordering.{on}
use Rattle.cr_bags.proofs.SortLaws.{sorted_by_closure}
use Rattle.cr_exec.specs.Comparisons.{held_order}
use Rattle.cr_exec.specs.Shows.{shown_of, row_of, keyed_cmp}
use Rattle.cr_exec.proofs.Sorted.{held_total}
use Rattle.cr_exec.proofs.Orders.{keyed_total, keyed_shows, rows_sorted}
use Rattle.cr_exec.proofs.order.sorted.Goals as goal

pub returns : goal.returns
returns g c =
    let Rs = map (held_order (g.F.Functions.order_at c.args.functions.now)) c.args.senses.now in
    sorted_by_closure (on shown_of (keyed_cmp Rs)) (keyed_total Rs (held_total (g.F.Functions.order_at c.args.functions.now) (g.F.Functions.found_total c.args.functions.now) c.args.senses.now)) row_of (keyed_shows Rs) c.args.shown.items c.sort_by.new.self.items c.sort_by.ensures.permutation c.in_ok-sort_by.ensures.sorted (λ a r f' k. search rules)
    ∙ rows_sorted Rs c.args.shown.items
