use Rattle.std.proofs.Common.{◌≤◌, rules}
use Rattle.std.proofs.lemmas.List.Sorted.{IsPartitionPoint-from_clause}
use Rattle.cr_lattice.specs.Rows.{is_below, is_below_or_under}
use Rattle.cr_lattice.proofs.KeyLemmas.{partitioned_below, partitioned_to, start_le_end, part_is_filter}
use Rattle.cr_lattice.proofs.rows.changes_under.Goals as goal

pub slice_bounds-result-count : goal.slice_bounds-result-count
slice_bounds-result-count c =
    let xs = c.args.by_key.now in
    let pk = c.args.pk.now in
    let below = IsPartitionPoint-from_clause (is_below pk) xs c.partition_point-start.result c.partition_point-start.ensures.partitioned (partitioned_below xs pk c.requires) (λ a r f' called. search rules) in
    let to = IsPartitionPoint-from_clause (is_below_or_under pk) xs c.partition_point-end.result c.partition_point-end.ensures.partitioned (partitioned_to xs pk c.requires) (λ a r f' called. search rules) in
    start_le_end xs pk _ _ c.partition_point-start.ensures.bound below to

pub slice_bounds-result-start : goal.slice_bounds-result-start
slice_bounds-result-start c =
    let le : c.partition_point-start.result ≤ c.partition_point-end.result = slice_bounds-result-count c in
    search rules

pub returns : goal.returns
returns c =
    let xs = c.args.by_key.now in
    let pk = c.args.pk.now in
    let below = IsPartitionPoint-from_clause (is_below pk) xs c.partition_point-start.result c.partition_point-start.ensures.partitioned (partitioned_below xs pk c.requires) (λ a r f' called. search rules) in
    let to = IsPartitionPoint-from_clause (is_below_or_under pk) xs c.partition_point-end.result c.partition_point-end.ensures.partitioned (partitioned_to xs pk c.requires) (λ a r f' called. search rules) in
    part_is_filter xs pk _ _ c.partition_point-start.ensures.bound c.partition_point-end.ensures.bound below to
