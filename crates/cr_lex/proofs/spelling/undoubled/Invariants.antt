use Rattle.std.proofs.Common.{◌≡◌, ◌++◌, drop, false}
use Rattle.cr_lex.proofs.Undoubling.{left}
use Rattle.cr_lex.proofs.spelling.undoubled.Given as goal

abbrev pub invariant-loop-c : goal.invariant-loop-c
invariant-loop-c l = l.once.items ++ left l.after_quote l.quote (drop l.c-index l.bytes) ≡ left false l.quote l.bytes
