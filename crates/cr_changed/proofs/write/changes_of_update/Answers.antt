use Rattle.cr_scalar.specs.Host.{host}
use Rattle.cr_changed.specs.Changed.{update_wants}
use Rattle.cr_changed.proofs.Leading.{changes_by}
use Rattle.cr_changed.proofs.Widths.{updated_wide}
use Rattle.cr_changed.proofs.write.changes_of_update.Goals as goal

pub changes_to-requires-clause-width : goal.changes_to-requires-clause-width
changes_to-requires-clause-width g c =
    updated_wide (host (g.F.Functions.function_of c.args.functions.now) (g.F.Functions.scalar c.args.functions.now) (g.F.Functions.step c.args.functions.now) (g.F.Functions.finish c.args.functions.now) (g.F.Functions.order_of c.args.functions.now))
    c.args.params.now c.args.snapshot.now c.args.update.now c.in_ok-wanted.wanted.items c.in_ok-wanted.ensures

pub returns : goal.returns
returns g c =
    changes_by (host (g.F.Functions.function_of c.args.functions.now) (g.F.Functions.scalar c.args.functions.now) (g.F.Functions.step c.args.functions.now) (g.F.Functions.finish c.args.functions.now) (g.F.Functions.order_of c.args.functions.now))
    c.args.params.now c.args.update.now.relation.definition c.args.snapshot.now.site c.args.snapshot.now.kept (update_wants c.args.snapshot.now c.args.update.now) c.in_ok-wanted.wanted.items c.changes_to.result (λ v. v.items)
    c.in_ok-wanted.ensures (rw c.as_slice-kept.ensures at c.changes_to.ensures)
