use Rattle.std.proofs.Common.{rules}
use Rattle.std.specs.Ordering.{is_le}
use Rattle.std.proofs.lemmas.List.Sorted.{IsPartitionPoint-from_clause}
use Rattle.cr_delta.specs.Run.{row_order}
use Rattle.cr_delta.proofs.Runs.{upto_is_partitioned}
use Rattle.cr_delta.proofs.run.row_end.Goals as goal

pub returns-clause-point : goal.returns-clause-point
returns-clause-point c =
    IsPartitionPoint-from_clause (λ x. is_le (row_order c.args.table.now c.args.pk.now x)) _ _ c.partition_point.ensures.partitioned
    (upto_is_partitioned c.args.table.now c.args.pk.now c.args.kept.now c.requires) (λ a r q k. search rules)
