use Rattle.std.proofs.Common.{rules, subst, sym, SFits, w64, to_z-of_z}
use Rattle.cr_value.specs.declared.value.Value.TheVariants.{Int, Text, Blob}
use Rattle.cr_shell.specs.Printing.{Prints}
use Rattle.cr_shell.proofs.PrintLemmas.{prints_more, bars_four}
use Rattle.cr_shell.proofs.printing.print_cell.Goals as goal

pub returns : goal.returns
returns g c =
    let fits-version : SFits w64 c.args.change.now.col_version = search rules in
    let version = simp (to_z-of_z fits-version) at c.print_behind_bar-2.ensures in
    subst (Prints g.W.Write.contents _ _) (sym (bars_four (Blob c.args.change.now.pk) (Text c.args.change.now.cid) c.args.change.now.val (Int c.args.change.now.col_version)))
    (prints_more g.W.Write.contents _ _ _ _ _ (rw c.as_slice.ensures at c.print_blob_behind_bar.ensures) (prints_more g.W.Write.contents _ _ _ _ _ (rw c.as_str.ensures.value at c.print_text_behind_bar.ensures) (prints_more g.W.Write.contents _ _ _ _ _ c.print_behind_bar.ensures version)))
