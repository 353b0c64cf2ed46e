use Rattle.std.proofs.Common.{take}
use Rattle.hex.specs.Hex.{encode_upper}
use Rattle.cr_shell.specs.Printing.{Prints}
use Rattle.cr_shell.proofs.literals.print_digits.Given as goal

abbrev pub invariant-loop-byte : goal.invariant-loop-byte
invariant-loop-byte g l = Prints g.W.Write.contents l.fn.writer l.writer (encode_upper (take l.byte-index l.bytes))
