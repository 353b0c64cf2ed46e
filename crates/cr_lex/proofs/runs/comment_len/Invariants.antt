use Rattle.std.proofs.Common.{◌≡◌, drop, false}
use Rattle.cr_lex.specs.Reading.{comment_len}
use Rattle.cr_lex.proofs.runs.comment_len.Given as goal

abbrev pub invariant-loop-at : goal.invariant-loop-at
invariant-loop-at l = comment_len l.after_star l.at (drop l.at l.bytes) ≡ comment_len false 0 l.bytes
