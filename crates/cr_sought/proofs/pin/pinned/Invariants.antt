use Rattle.std.proofs.Common.{◌≡◌, drop}
use Rattle.cr_sought.specs.Sought.{pinned, standing}
use Rattle.cr_sought.proofs.pin.pinned.Given as goal

abbrev pub invariant-loop-term : goal.invariant-loop-term
invariant-loop-term l = pinned (standing l.beside) l.params (drop l.term-index l.terms) l.at ≡ pinned (standing l.beside) l.params l.terms l.at
