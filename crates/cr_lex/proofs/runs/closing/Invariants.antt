use Rattle.std.proofs.Common.{◌≡◌, drop, false}
use Rattle.cr_lex.specs.Reading.{closing}
use Rattle.cr_lex.proofs.runs.closing.Given as goal

abbrev pub invariant-loop-at : goal.invariant-loop-at
invariant-loop-at l = closing l.quote l.after_quote l.at (drop l.at l.bytes) ≡ closing l.quote false 0 l.bytes
