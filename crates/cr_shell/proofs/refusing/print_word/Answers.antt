use Rattle.cr_shell.proofs.PrintLemmas.{prints_more}
use Rattle.cr_shell.proofs.refusing.print_word.Goals as goal

pub returns : goal.returns
returns g c = prints_more g.W.Write.contents _ _ _ _ _ c.write_all.ensures c.write_text.ensures
