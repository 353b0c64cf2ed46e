use Rattle.std.proofs.Common.{take}
use Rattle.std.specs.List.{flat_map}
use Rattle.cr_shell.specs.Printing.{Prints, change_line}
use Rattle.cr_shell.proofs.printing.print_changes.Given as goal

abbrev pub invariant-loop-change : goal.invariant-loop-change
invariant-loop-change g l = Prints g.W.Write.contents l.fn.writer l.writer (flat_map change_line (take l.change-index l.changes))
