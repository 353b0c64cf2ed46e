use Rattle.cr_shell.proofs.PrintLemmas.{prints_more}
use Rattle.cr_shell.proofs.literals.print_quoted.Goals as goal

pub returns : goal.returns
returns g c = prints_more g.W.Write.contents _ _ _ _ _ c.write_all.ensures (prints_more g.W.Write.contents _ _ _ _ _ c.print_doubled.ensures c.write_all-2.ensures)
