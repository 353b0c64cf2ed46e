use Rattle.std.proofs.Common.{◌≡◌, ℕ, false, length, get_or}
use Rattle.cr_scalar.proofs.like.ends_of.Given as goal

abbrev pub invariant-loop-turn : goal.invariant-loop-turn
invariant-loop-turn l = record {
  len : length l.ends.items ≡ l._turn;
  none : (k : ℕ) → get_or l.ends.items k false ≡ false;
}
