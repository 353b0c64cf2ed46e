use Rattle.std.proofs.Common.{map, rules}
use Rattle.std.specs.Ordering.{on}
use Rattle.std.proofs.lemmas.Cmp.{on_total}
use Rattle.cr_exec.specs.Comparisons.{by_orders, held_order}
use Rattle.cr_exec.specs.Groups.{key_of}
use Rattle.cr_exec.proofs.Sorted.{held_total}
use Rattle.cr_exec.proofs.Runs.{sorted_so, stable_so}
use Rattle.cr_exec.proofs.Keys.{is_by_class}
use Rattle.cr_exec.proofs.group.by_class.Goals as goal

pub returns : goal.returns
returns g c =
    let Rs = map (held_order (g.F.Functions.order_at c.args.functions.now)) c.args.senses.now in
    let total = held_total (g.F.Functions.order_at c.args.functions.now) (g.F.Functions.found_total c.args.functions.now) c.args.senses.now in
    is_by_class Rs total c.args.keyed.items c.sort_by.new.self.items c.sort_by.ensures.permutation
    (sorted_so (on key_of (by_orders Rs)) (on_total key_of total) (λ a r f' k. search rules) c.sort_by.new.self.items c.in_ok-sort_by.ensures.sorted)
    (stable_so (on key_of (by_orders Rs)) (on_total key_of total) (λ a r f' k. search rules) c.args.keyed.items c.sort_by.new.self.items c.sort_by.ensures.stable)
