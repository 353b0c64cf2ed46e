use Rattle.std.proofs.Common.{◌≤◌, ◌-◌, ℕ, List, length}
use Rattle.cr_lex.specs.Tokens.{AreBlanks}
use Rattle.cr_lex.proofs.scan.gap_end.Given as goal

abbrev pub invariant-loop-from : goal.invariant-loop-from
invariant-loop-from l = (l.to ≤ length l.bytes) × ((ends : List ℕ) × AreBlanks l.bytes l.from ends l.to)

abbrev pub decreases-loop-from : goal.decreases-loop-from
decreases-loop-from l = length l.bytes - l.to
