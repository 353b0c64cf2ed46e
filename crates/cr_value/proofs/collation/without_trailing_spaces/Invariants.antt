use Rattle.std.proofs.Common.{◌≡◌, length}
use Rattle.cr_value.specs.Collation.{without_trailing_spaces}
use Rattle.cr_value.proofs.collation.without_trailing_spaces.Given as goal

abbrev pub invariant-loop-front : goal.invariant-loop-front
invariant-loop-front l = without_trailing_spaces l.text ≡ without_trailing_spaces l.fn.text

abbrev pub decreases-loop-front : goal.decreases-loop-front
decreases-loop-front l = length l.text
