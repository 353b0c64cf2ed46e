use Rattle.std.proofs.Common.{◌≡◌, map, take}
use Rattle.cr_grouped.specs.Grouping.{ordered_in}
use Rattle.cr_grouped.proofs.query.order_terms.Given as goal

abbrev pub invariant-loop-term : goal.invariant-loop-term
invariant-loop-term l = l.ordered ≡ map (ordered_in l.is_distinct l.is_grouped l.terms l.columns) (take l.term-index l.order)
