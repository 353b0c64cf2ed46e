use Rattle.std.proofs.Common.{rules, ap, ◌≡◌, ◌∙◌, ◌++◌, ◌∷◌, [], List, take, get_or}
use Rattle.std.proofs.lemmas.List.{take_more}
use Rattle.std.specs.List.{flat_map}
use Rattle.cr_value.specs.declared.value.Value.{Value}
use Rattle.cr_shell.specs.Printing.{row_line}
use Rattle.cr_shell.proofs.PrintLemmas.{prints_next, each_more}
use Rattle.cr_shell.proofs.printing.print_rows.Goals as goal

pub loop-row-preserved : goal.loop-row-preserved
loop-row-preserved g c =
    let item : get_or c.args.rows.now c.loop-row.row-index c.row-item.result ≡ c.row-item.result = search rules in
    prints_next g.W.Write.contents (flat_map row_line) _ _ _ c.loop-row.row-index c.args.rows.now _ _ (each_more row_line (take c.loop-row.row-index c.args.rows.now) c.row-item.result) (take_more c.args.rows.now c.loop-row.row-index _ c.loop-row-test.true ∙ ap (λ (x : List Value). take c.loop-row.row-index c.args.rows.now ++ x ∷ []) item) c.loop-row.invariant c.print_row.ensures
