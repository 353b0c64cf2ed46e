use Rattle.std.proofs.Common.{◌≡◌, length}
use Rattle.cr_value.specs.Collation.{without_leading_spaces}
use Rattle.cr_value.proofs.collation.without_leading_spaces.Given as goal

abbrev pub invariant-loop-text : goal.invariant-loop-text
invariant-loop-text l = without_leading_spaces l.text ≡ without_leading_spaces l.fn.text

abbrev pub decreases-loop-text : goal.decreases-loop-text
decreases-loop-text l = length l.text
