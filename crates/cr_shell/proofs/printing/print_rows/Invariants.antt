use Rattle.std.proofs.Common.{take}
use Rattle.std.specs.List.{flat_map}
use Rattle.cr_shell.specs.Printing.{Prints, row_line}
use Rattle.cr_shell.proofs.printing.print_rows.Given as goal

abbrev pub invariant-loop-row : goal.invariant-loop-row
invariant-loop-row g l = Prints g.W.Write.contents l.fn.writer l.writer (flat_map row_line (take l.row-index l.rows))
