use Rattle.std.proofs.Common.{subst, sym}
use Rattle.cr_shell.specs.Printing.{Prints}
use Rattle.cr_shell.proofs.PrintLemmas.{two_digits}
use Rattle.cr_shell.proofs.literals.print_byte.Goals as goal

pub returns : goal.returns
returns g c = subst (Prints g.W.Write.contents _ _) (sym (two_digits c.args.byte)) c.write_all.ensures
