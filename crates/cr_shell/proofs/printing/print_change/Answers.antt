use Rattle.std.proofs.Common.{subst, sym, [], ◌∷◌}
use Rattle.cr_value.specs.declared.value.Value.TheVariants.{Int, Text, Blob}
use Rattle.cr_shell.specs.Printing.{Prints}
use Rattle.cr_shell.proofs.PrintLemmas.{prints_more, row_of_parts}
use Rattle.cr_shell.proofs.printing.print_change.Goals as goal

pub returns : goal.returns
returns g c =
    let s = c.args.stamped.now in
    subst (Prints g.W.Write.contents _ _) (sym (row_of_parts (Text s.change.table) (Blob s.change.pk ∷ Text s.change.cid ∷ s.change.val ∷ Int s.change.col_version ∷ []) (Int s.version ∷ Blob s.change.site ∷ Int s.change.cl ∷ Int s.seq ∷ [])))
    (prints_more g.W.Write.contents _ _ _ _ _ (prints_more g.W.Write.contents _ _ _ _ _ (rw c.as_str.ensures.value at c.print_text.ensures) (prints_more g.W.Write.contents _ _ _ _ _ c.print_cell.ensures c.print_stamp.ensures)) c.write_all.ensures)
