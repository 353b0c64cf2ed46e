use Rattle.std.proofs.Common.{take}
use Rattle.std.specs.List.{flat_map}
use Rattle.cr_shell.specs.Printing.{Prints, reply_lines}
use Rattle.cr_shell.proofs.printing.print_statements.Given as goal

abbrev pub invariant-loop-reply : goal.invariant-loop-reply
invariant-loop-reply g l = Prints g.W.Write.contents l.fn.writer l.writer (flat_map reply_lines (take l.reply-index l.replies))
