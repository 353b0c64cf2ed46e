use Rattle.std.proofs.Common.{◌≡◌}
use Rattle.cr_scalar.proofs.like.characters.Given as goal

abbrev pub invariant-loop-c : goal.invariant-loop-c
invariant-loop-c l = l.all.items ≡ l.yielded
