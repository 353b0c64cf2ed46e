use Rattle.std.proofs.Common.{◌≡◌, map, take}
use Rattle.cr_replica.specs.Definition.{with_settled_default}
use Rattle.cr_replica.proofs.definition.settled.Given as goal

abbrev pub invariant-loop-column : goal.invariant-loop-column
invariant-loop-column l = l.columns.items ≡ map with_settled_default (take l.column-index l.column-items)
