use Rattle.std.proofs.Common.{rules, subst, sym, SFits, w64, to_z-of_z}
use Rattle.cr_value.specs.declared.value.Value.TheVariants.{Int, Blob}
use Rattle.cr_shell.specs.Printing.{Prints}
use Rattle.cr_shell.proofs.PrintLemmas.{prints_more, bars_four}
use Rattle.cr_shell.proofs.printing.print_stamp.Goals as goal

pub returns : goal.returns
returns g c =
    let fits-version : SFits w64 c.args.stamped.now.version = search rules in
    let version = simp (to_z-of_z fits-version) at c.print_behind_bar.ensures in
    let fits-length : SFits w64 c.args.stamped.now.change.cl = search rules in
    let length = simp (to_z-of_z fits-length) at c.print_behind_bar-2.ensures in
    let fits-place : SFits w64 c.args.stamped.now.seq = search rules in
    let place = simp (to_z-of_z fits-place) at c.print_behind_bar-3.ensures in
    subst (Prints g.W.Write.contents _ _) (sym (bars_four (Int c.args.stamped.now.version) (Blob c.args.stamped.now.change.site) (Int c.args.stamped.now.change.cl) (Int c.args.stamped.now.seq)))
    (prints_more g.W.Write.contents _ _ _ _ _ version (prints_more g.W.Write.contents _ _ _ _ _ c.print_blob_behind_bar.ensures (prints_more g.W.Write.contents _ _ _ _ _ length place)))
