use Rattle.cr_shell.proofs.PrintLemmas.{prints_more}
use Rattle.cr_shell.proofs.refusing.print_head.Goals as goal

pub returns : goal.returns
returns g c = prints_more g.W.Write.contents _ _ _ _ _ c.write_all.ensures (prints_more g.W.Write.contents _ _ _ _ _ (rw c.code.ensures at (rw c.format.ensures.text at c.write_text.ensures)) (rw c.name.ensures at c.print_word.ensures))
