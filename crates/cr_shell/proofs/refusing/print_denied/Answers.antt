use Rattle.cr_shell.proofs.PrintLemmas.{prints_more}
use Rattle.cr_shell.proofs.refusing.print_denied.Goals as goal

pub returns : goal.returns
returns g c = prints_more g.W.Write.contents _ _ _ _ _ (prints_more g.W.Write.contents _ _ _ _ _ (rw c.action_code.ensures at (rw c.format.ensures.text at c.print_word.ensures)) c.print_name.ensures) c.print_name-2.ensures
