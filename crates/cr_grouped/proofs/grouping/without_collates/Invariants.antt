use Rattle.std.proofs.Common.{◌≡◌, map, take}
use Rattle.cr_grouped.specs.Grouping.{bare_term}
use Rattle.cr_grouped.proofs.grouping.without_collates.Given as goal

abbrev pub invariant-loop-group : goal.invariant-loop-group
invariant-loop-group l = l.terms ≡ map bare_term (take l.group-index l.groups)
