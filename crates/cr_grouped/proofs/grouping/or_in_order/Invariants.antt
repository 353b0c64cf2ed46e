use Rattle.std.proofs.Common.{◌≡◌, drop}
use Rattle.std.specs.List.{flat_map}
use Rattle.cr_select.specs.Aggregates.{or_any}
use Rattle.cr_grouped.specs.Grouping.{order_aggregates}
use Rattle.cr_grouped.proofs.grouping.or_in_order.Given as goal

abbrev pub invariant-loop-term : goal.invariant-loop-term
invariant-loop-term l = or_any l.found (flat_map order_aggregates (drop l.term-index l.terms)) ≡ or_any l.initial.found (flat_map order_aggregates l.terms)
