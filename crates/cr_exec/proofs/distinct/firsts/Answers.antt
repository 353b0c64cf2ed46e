use Rattle.std.proofs.Common.{map, rules}
use Rattle.std.specs.Ordering.{on}
use Rattle.std.proofs.lemmas.Cmp.{on_total}
use Rattle.std.proofs.lemmas.Fn.{dedup_same}
use Rattle.cr_exec.specs.declared.show.Shown.{Shown}
use Rattle.cr_exec.specs.Comparisons.{by_orders, held_order}
use Rattle.cr_exec.specs.Shows.{shown_of, row_of, shown_ties}
use Rattle.cr_exec.proofs.Sorted.{held_total}
use Rattle.cr_exec.proofs.Runs.{firsts_left}
use Rattle.cr_exec.proofs.distinct.firsts.Goals as goal

pub returns : goal.returns
returns g c =
    let Rs = map (held_order (g.F.Functions.order_at c.args.functions.now)) c.args.senses.now in
    let left = dedup_same _ (λ (a b : Shown). shown_ties Rs (shown_of a) (shown_of b)) _ (λ x y b f' x' y' k. search rules) c.sort_by.new.self.items c.dedup_by.new.self.items c.dedup_by.ensures.filtered in
    firsts_left (on row_of (by_orders Rs)) (on_total row_of (held_total (g.F.Functions.order_at c.args.functions.now) (g.F.Functions.found_total c.args.functions.now) c.args.senses.now)) (λ a r f' k. search rules)
    c.args.shown.items c.sort_by.new.self.items c.dedup_by.new.self.items c.in_ok-sort_by.ensures.sorted c.sort_by.ensures.stable left
