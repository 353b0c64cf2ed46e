use Rattle.std.proofs.Common.{rules, ap, ◌≡◌, ◌∙◌, ◌++◌, ◌∷◌, [], take, get_or}
use Rattle.std.proofs.lemmas.List.{take_more}
use Rattle.std.specs.List.{flat_map}
use Rattle.cr_lattice.specs.declared.stamped.Stamped.{Stamped}
use Rattle.cr_shell.specs.Printing.{change_line}
use Rattle.cr_shell.proofs.PrintLemmas.{prints_next, each_more}
use Rattle.cr_shell.proofs.printing.print_changes.Goals as goal

pub loop-change-preserved : goal.loop-change-preserved
loop-change-preserved g c =
    let item : get_or c.args.changes.now c.loop-change.change-index c.change-item.result ≡ c.change-item.result = search rules in
    prints_next g.W.Write.contents (flat_map change_line) _ _ _ c.loop-change.change-index c.args.changes.now _ _ (each_more change_line (take c.loop-change.change-index c.args.changes.now) c.change-item.result) (take_more c.args.changes.now c.loop-change.change-index _ c.loop-change-test.true ∙ ap (λ (x : Stamped). take c.loop-change.change-index c.args.changes.now ++ x ∷ []) item) c.loop-change.invariant c.print_change.ensures
