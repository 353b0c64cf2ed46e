use Rattle.cr_resolve.specs.Queries.{results_of}
use Rattle.cr_resolve.specs.Told.{Refuses}
use Rattle.cr_select.proofs.Star.{fails}
use Rattle.std.proofs.Common.{rules}
use Rattle.cr_select.proofs.outputs.results_of.Goals as goal

pub returns-in_err-more : goal.returns-in_err-more
returns-in_err-more g c =
    let why : Refuses (results_of (g.K.Naming.known c.args.known.now) c.args.sources.now c.args.shown.now).bad c.in_err-more.field-0.0 =
    fails (g.K.Naming.known c.args.known.now) c.args.sources.now c.args.shown.now c.loop-tree.tree-index c.tree-item.result c.loop-tree.is_misplaced c.loop-tree.made c.in_err-more.field-0.0
    (results_of (g.K.Naming.known c.args.known.now) c.args.sources.now c.args.shown.now) c.loop-tree-test.true c.tree-item.is c.in_err-more.ensures c.loop-tree.invariant in
    search rules
