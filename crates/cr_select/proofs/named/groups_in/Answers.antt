use Rattle.std.proofs.Common.{map, rules}
use Rattle.cr_resolve.specs.Reading.{each}
use Rattle.cr_resolve.specs.Queries.{group_term}
use Rattle.cr_resolve.specs.Told.{Refuses}
use Rattle.cr_select.specs.Outputs.{as_result}
use Rattle.cr_select.proofs.Each.{fails, next}
use Rattle.cr_select.proofs.named.groups_in.Goals as goal

pub returns-in_err-term : goal.returns-in_err-term
returns-in_err-term g c =
    let f = group_term (g.K.Naming.known c.args.known.now) c.args.sources.now (map as_result c.args.outputs.now) in
    let why : Refuses (each (map f c.args.trees.now)).bad c.in_err-term.field-0.0 =
    fails f c.loop-tree.is_misplaced c.loop-tree.made c.args.trees.now c.loop-tree.tree-index c.tree-item.result c.in_err-term.field-0.0 (each (map f c.args.trees.now)) c.loop-tree-test.true c.tree-item.is c.in_err-term.ensures c.loop-tree.invariant in
    search rules

pub loop-tree-preserved : goal.loop-tree-preserved
loop-tree-preserved g c =
    let f = group_term (g.K.Naming.known c.args.known.now) c.args.sources.now (map as_result c.args.outputs.now) in
    let step = next f c.loop-tree.is_misplaced c.loop-tree.made c.args.trees.now c.loop-tree.tree-index c.tree-item.result c.in_ok-term.term (each (map f c.args.trees.now)) c.loop-tree-test.true c.tree-item.is c.in_ok-term.ensures c.loop-tree.invariant in
    rw (c.either-is_misplaced.ensures, c.in_ok-push.ensures.ok) step
