use Rattle.std.proofs.Common.{◌≡◌, false, [], map, drop}
use Rattle.cr_resolve.specs.Expressions.{expr}
use Rattle.cr_resolve.specs.Reading.{each}
use Rattle.cr_written.proofs.Loops.{behind}
use Rattle.cr_written.proofs.insert.values.Given as goal

abbrev pub invariant-loop-tree : goal.invariant-loop-tree
invariant-loop-tree g l =
    let f = expr (g.K.Naming.known l.known) [] false in
    behind l.values (each (map f (drop l.tree-index l.row))) ≡ each (map f l.row)
