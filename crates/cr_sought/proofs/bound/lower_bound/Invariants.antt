use Rattle.std.proofs.Common.{◌≡◌, drop}
use Rattle.cr_sought.specs.Bounds.{lower_bound}
use Rattle.cr_sought.proofs.bound.lower_bound.Given as goal

abbrev pub invariant-loop-term : goal.invariant-loop-term
invariant-loop-term l = lower_bound l.params (drop l.term-index l.terms) l.at ≡ lower_bound l.params l.terms l.at
