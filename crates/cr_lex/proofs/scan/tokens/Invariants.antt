use Rattle.std.proofs.Common.{◌≤◌, ◌-◌, length}
use Rattle.cr_lex.proofs.Places.{Begun}
use Rattle.cr_lex.proofs.scan.tokens.Given as goal

abbrev pub invariant-loop-from : goal.invariant-loop-from
invariant-loop-from l = (l.from ≤ length l.bytes) × Begun l.bytes l.found.items l.from

abbrev pub decreases-loop-from : goal.decreases-loop-from
decreases-loop-from l = length l.bytes - l.from
