use Rattle.std.proofs.Common.{◌≡◌, ◌+◌, drop}
use Rattle.cr_shell.specs.TableLine.{word_len}
use Rattle.cr_shell.proofs.table_line.word_len.Given as goal

abbrev pub invariant-loop-at : goal.invariant-loop-at
invariant-loop-at l = word_len l.stop l.bytes ≡ l.at + word_len l.stop (drop l.at l.bytes)
