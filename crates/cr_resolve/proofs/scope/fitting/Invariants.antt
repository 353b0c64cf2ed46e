use Rattle.std.proofs.Common.{◌≡◌, ◌++◌, drop}
use Rattle.cr_resolve.specs.Scope.{fitting}
use Rattle.cr_resolve.proofs.InSight.{fitting_from}
use Rattle.cr_resolve.proofs.scope.fitting.Given as goal

abbrev pub invariant-loop-number : goal.invariant-loop-number
invariant-loop-number l = l.fitting.items ++ fitting_from l.qualifier l.name l.number l.from (drop l.number l.sources) ≡ fitting l.sources l.qualifier l.name
