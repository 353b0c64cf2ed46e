use Rattle.std.proofs.Common.{◌≡◌, length}
use Rattle.cr_guard.specs.Heard.{are_rising}
use Rattle.cr_guard.proofs.heard.are_rising.Given as goal

abbrev pub invariant-loop-rest : goal.invariant-loop-rest
invariant-loop-rest l = are_rising l.rest ≡ are_rising l.keys

abbrev pub decreases-loop-rest : goal.decreases-loop-rest
decreases-loop-rest l = length l.rest
