use Rattle.std.proofs.Common.{false, [], map, rules}
use Rattle.cr_resolve.specs.Expressions.{expr}
use Rattle.cr_resolve.specs.Reading.{each}
use Rattle.cr_resolve.specs.Told.{Refuses}
use Rattle.cr_written.proofs.Loops.{each_fails, each_next}
use Rattle.cr_written.proofs.insert.values.Goals as goal

pub returns-in_err-value : goal.returns-in_err-value
returns-in_err-value g c =
    let f = expr (g.K.Naming.known c.args.known.now) [] false in
    let why : Refuses (each (map f c.args.row.now)).bad c.in_err-value.field-0.0 =
    each_fails f c.loop-tree.values c.args.row.now c.loop-tree.tree-index c.tree-item.result c.in_err-value.field-0.0 (each (map f c.args.row.now)) c.loop-tree-test.true c.tree-item.is c.in_err-value.ensures c.loop-tree.invariant in
    search rules

pub loop-tree-preserved : goal.loop-tree-preserved
loop-tree-preserved g c =
    let f = expr (g.K.Naming.known c.args.known.now) [] false in
    each_next f c.loop-tree.values c.push.new.self c.args.row.now c.loop-tree.tree-index c.tree-item.result c.in_ok-value.value (each (map f c.args.row.now)) c.loop-tree-test.true c.tree-item.is c.in_ok-value.ensures c.in_ok-push.ensures c.loop-tree.invariant
