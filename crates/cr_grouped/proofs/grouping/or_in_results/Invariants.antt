use Rattle.std.proofs.Common.{◌≡◌, drop}
use Rattle.std.specs.List.{flat_map}
use Rattle.cr_select.specs.Aggregates.{or_any}
use Rattle.cr_grouped.specs.Grouping.{output_aggregates}
use Rattle.cr_grouped.proofs.grouping.or_in_results.Given as goal

abbrev pub invariant-loop-output : goal.invariant-loop-output
invariant-loop-output l = or_any l.found (flat_map output_aggregates (drop l.output-index l.outputs)) ≡ or_any l.initial.found (flat_map output_aggregates l.outputs)
