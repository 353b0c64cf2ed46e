use Rattle.std.proofs.Common.{sym, ◌∙◌, rules}
use Rattle.cr_recent.proofs.NoteLemmas.{unchanged_noted, changed_noted}
use Rattle.cr_recent.proofs.recent.RecentCells.commit.Goals as goal

pub invariant_of-self-then-changed : goal.invariant_of-self-then-changed
invariant_of-self-then-changed g c = λ clean.
    let done = c.in_ok-changed.ensures.commits clean in
    let h = g.C.Cells.holding c.self.inside.cells in
    changed_noted h (g.C.Cells.holding c.commit.new.self) c.args.changes.now c.args.peer c.db_version-version.result c.self.inside.notes c.add.new.self
    done.0 (sym done.1 ∙ c.if-changed.true) (c.db_version-version.ensures.sound clean) (c.db_version-version.ensures.version clean)
    (c.self.invariant (c.in_ok-changed.ensures.device.was_clean clean)) (search rules)

pub invariant_of-self-else-changed : goal.invariant_of-self-else-changed
invariant_of-self-else-changed g c = λ clean.
    let done = c.in_ok-changed.ensures.commits clean in
    unchanged_noted (g.C.Cells.holding c.self.inside.cells) (g.C.Cells.holding c.commit.new.self) c.args.changes.now c.args.peer c.self.inside.notes
    done.0 (sym done.1 ∙ c.if-changed.false) (c.self.invariant (c.in_ok-changed.ensures.device.was_clean clean))
