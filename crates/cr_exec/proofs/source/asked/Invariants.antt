use Rattle.std.proofs.Common.{◌≡◌, drop, map}
use Rattle.cr_exec.specs.Groups.{row_there}
use Rattle.cr_exec.specs.LookUps.{asked}
use Rattle.cr_exec.specs.Scopes.{there}
use Rattle.cr_exec.proofs.source.asked.Given as goal

abbrev pub invariant-loop-term : goal.invariant-loop-term
invariant-loop-term l = asked l.start (map row_there l.rows) (map there (drop l.term-index l.terms)) ≡ asked l.start (map row_there l.rows) (map there l.terms)
