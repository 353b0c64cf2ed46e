use Rattle.std.proofs.Common.{map, rules}
use Rattle.std.specs.Ordering.{on, is_lt, is_eq}
use Rattle.std.proofs.lemmas.Cmp.{on_total}
use Rattle.std.proofs.lemmas.List.Sorted.{IsPartitionPoint-from_clause}
use Rattle.cr_exec.specs.declared.group.Keyed.{Keyed}
use Rattle.cr_exec.specs.Comparisons.{by_orders, held_order}
use Rattle.cr_exec.specs.Groups.{key_of}
use Rattle.cr_exec.proofs.Sorted.{held_total}
use Rattle.cr_exec.proofs.Runs.{less_parted, level_parted, class_is, rest_is}
use Rattle.cr_exec.proofs.Keys.{with_key}
use Rattle.cr_exec.proofs.group.class_of.Goals as goal

pub returns : goal.returns
returns g c =
    let Rs = map (held_order (g.F.Functions.order_at c.args.functions.now)) c.args.senses.now in
    let R = on key_of (by_orders Rs) in
    let total = on_total key_of (held_total (g.F.Functions.order_at c.args.functions.now) (g.F.Functions.found_total c.args.functions.now) c.args.senses.now) in
    let xs = c.args.keyed.now in
    let k = with_key c.args.class.now in
    let i = c.partition_point-start.result in
    let rest = rest_is i xs in
    let split = IsPartitionPoint-from_clause (λ (y : Keyed). is_lt (R y k)) xs i c.partition_point-start.ensures.partitioned (less_parted R total k xs c.requires.in_order) (λ a r f' h. search rules) in
    let stretch = IsPartitionPoint-from_clause (λ (y : Keyed). is_eq (R y k)) _ c.partition_point-count.result c.partition_point-count.ensures.partitioned (level_parted R total k xs i c.partition_point-start.ensures.bound split _ rest c.requires.in_order) (λ a r f' h. search rules) in
    class_is R total k xs i c.partition_point-start.ensures.bound split _ rest c.partition_point-count.result stretch
