use Rattle.std.proofs.Common.{subst, sym}
use Rattle.cr_shell.specs.Printing.{Prints}
use Rattle.cr_shell.proofs.PrintLemmas.{doubled_quote, doubled_other}
use Rattle.cr_shell.proofs.literals.print_doubled_byte.Goals as goal

pub returns-then-byte-eq39 : goal.returns-then-byte-eq39
returns-then-byte-eq39 g c = subst (Prints g.W.Write.contents _ _) (sym (doubled_quote c.args.byte c.if-byte-eq39.true)) c.write_all.ensures

pub returns-else-byte-eq39 : goal.returns-else-byte-eq39
returns-else-byte-eq39 g c = subst (Prints g.W.Write.contents _ _) (sym (doubled_other c.args.byte c.if-byte-eq39.false)) c.write_all-else-byte-eq39.ensures
