use Rattle.std.proofs.Common.{◌++◌, sym, subst, ap, ◌∙◌}
use Rattle.cr_wanted.specs.Judged.{AreWide}
use Rattle.cr_changed.proofs.Widths.{behind_wide}
use Rattle.cr_changed.proofs.write.changes_of_rows.Goals as goal

pub changes_to-requires-clause-width : goal.changes_to-requires-clause-width
changes_to-requires-clause-width c =
    subst (AreWide c.args.definition.now.columns) (sym (c.in_ok-append.ensures.items ∙ ap (λ rs. rs ++ c.args.more.items) c.in_ok-wanted.ensures))
    (behind_wide c.args.kept.now c.args.definition.now c.args.more.items c.requires.width)
