use Rattle.std.proofs.Common.{◌≡◌, drop}
use Rattle.std.specs.List.{flat_map}
use Rattle.cr_select.specs.Placed.{or_bare}
use Rattle.cr_grouped.specs.Grouping.{order_bares}
use Rattle.cr_grouped.proofs.grouping.or_order_bare.Given as goal

abbrev pub invariant-loop-term : goal.invariant-loop-term
invariant-loop-term l = or_bare l.found (flat_map (order_bares l.terms) (drop l.term-index l.order)) ≡ or_bare l.initial.found (flat_map (order_bares l.terms) l.order)
