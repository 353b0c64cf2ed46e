use Rattle.cr_shell.proofs.PrintLemmas.{prints_more}
use Rattle.cr_shell.proofs.refusing.print_refusal.Goals as goal

pub returns : goal.returns
returns g c = prints_more g.W.Write.contents _ _ _ _ _ (prints_more g.W.Write.contents _ _ _ _ _ c.print_head.ensures c.print_details.ensures) c.write_all.ensures
