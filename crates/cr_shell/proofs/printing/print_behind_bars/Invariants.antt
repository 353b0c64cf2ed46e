use Rattle.std.proofs.Common.{take}
use Rattle.cr_shell.specs.Printing.{Prints, behind_bars}
use Rattle.cr_shell.proofs.printing.print_behind_bars.Given as goal

abbrev pub invariant-loop-value : goal.invariant-loop-value
invariant-loop-value g l = Prints g.W.Write.contents l.fn.writer l.writer (behind_bars (take l.value-index l.values))
