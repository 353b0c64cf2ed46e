use Rattle.std.proofs.Common.{rules, ap, subst, sym, ◌≡◌, ◌∙◌, ◌++◌, ◌∷◌, [], take, get_or}
use Rattle.std.proofs.lemmas.List.{take_more}
use Rattle.cr_value.specs.declared.value.Value.{Value}
use Rattle.cr_shell.specs.Printing.{Prints, behind_bars}
use Rattle.cr_shell.proofs.PrintLemmas.{prints_none, prints_next, bars_more, no_bars}
use Rattle.cr_shell.proofs.printing.print_behind_bars.Goals as goal

pub loop-value-init : goal.loop-value-init
loop-value-init g c = subst (Prints g.W.Write.contents _ _) (sym no_bars) (prints_none g.W.Write.contents _)

pub loop-value-preserved : goal.loop-value-preserved
loop-value-preserved g c =
    let item : get_or c.args.values.now c.loop-value.value-index c.value-item.result ≡ c.value-item.result = search rules in
    prints_next g.W.Write.contents behind_bars _ _ _ c.loop-value.value-index c.args.values.now _ _ (bars_more _ _) (take_more c.args.values.now c.loop-value.value-index _ c.loop-value-test.true ∙ ap (λ (x : Value). take c.loop-value.value-index c.args.values.now ++ x ∷ []) item) c.loop-value.invariant c.print_behind_bar.ensures
