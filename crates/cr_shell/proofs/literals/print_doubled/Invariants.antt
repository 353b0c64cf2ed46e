use Rattle.std.proofs.Common.{take}
use Rattle.cr_value.specs.Literal.{doubled}
use Rattle.cr_shell.specs.Printing.{Prints}
use Rattle.cr_shell.proofs.literals.print_doubled.Given as goal

abbrev pub invariant-loop-byte : goal.invariant-loop-byte
invariant-loop-byte g l = Prints g.W.Write.contents l.fn.writer l.writer (doubled (take l.byte-index l.text))
