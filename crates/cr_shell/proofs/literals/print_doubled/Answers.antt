use Rattle.std.proofs.Common.{subst, sym}
use Rattle.std.proofs.lemmas.List.{take_more}
use Rattle.cr_value.specs.Literal.{doubled}
use Rattle.cr_shell.specs.Printing.{Prints}
use Rattle.cr_shell.proofs.PrintLemmas.{prints_none, prints_next, doubled_more, no_doubled}
use Rattle.cr_shell.proofs.literals.print_doubled.Goals as goal

pub loop-byte-init : goal.loop-byte-init
loop-byte-init g c = subst (Prints g.W.Write.contents _ _) (sym no_doubled) (prints_none g.W.Write.contents _)

pub loop-byte-preserved : goal.loop-byte-preserved
loop-byte-preserved g c =
    prints_next g.W.Write.contents doubled _ _ _ c.loop-byte.byte-index c.args.text.now _ _ (doubled_more _ _) (take_more c.args.text.now c.loop-byte.byte-index 0 c.loop-byte-test.true) c.loop-byte.invariant c.print_doubled_byte.ensures
