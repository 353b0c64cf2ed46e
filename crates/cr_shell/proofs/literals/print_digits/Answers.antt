use Rattle.std.proofs.Common.{subst, sym}
use Rattle.std.proofs.lemmas.List.{take_more}
use Rattle.hex.specs.Hex.{upper_digits, encode_upper}
use Rattle.cr_shell.specs.Printing.{Prints}
use Rattle.cr_shell.proofs.PrintLemmas.{prints_none, prints_next, digits_more, no_digits}
use Rattle.cr_shell.proofs.literals.print_digits.Goals as goal

pub loop-byte-init : goal.loop-byte-init
loop-byte-init g c = subst (Prints g.W.Write.contents _ _) (sym (no_digits upper_digits)) (prints_none g.W.Write.contents _)

pub loop-byte-preserved : goal.loop-byte-preserved
loop-byte-preserved g c =
    prints_next g.W.Write.contents encode_upper _ _ _ c.loop-byte.byte-index c.args.bytes.now _ _ (digits_more upper_digits _ _) (take_more c.args.bytes.now c.loop-byte.byte-index 0 c.loop-byte-test.true) c.loop-byte.invariant c.print_byte.ensures
