use Rattle.std.proofs.Common.{◌≡◌, map, drop}
use Rattle.cr_resolve.specs.Reading.{each}
use Rattle.cr_resolve.specs.Queries.{order_term}
use Rattle.cr_select.specs.Outputs.{as_result}
use Rattle.cr_select.proofs.Each.{behind}
use Rattle.cr_select.proofs.named.order_in.Given as goal

abbrev pub invariant-loop-tree : goal.invariant-loop-tree
invariant-loop-tree g l =
    let f = order_term (g.K.Naming.known l.known) l.sources (map as_result l.outputs) in
    behind f l.is_misplaced l.made (drop l.tree-index l.trees) ≡ each (map f l.trees)
