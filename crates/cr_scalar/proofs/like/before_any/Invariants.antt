use Rattle.std.proofs.Common.{◌≡◌, ℕ, ◌+◌, ◌<◌, ◌≤◌, ◌||◌, false, length, get_or}
use Rattle.cr_scalar.proofs.like.before_any.Given as goal

abbrev pub invariant-loop-back : goal.invariant-loop-back
invariant-loop-back l = record {
  len : length l.ends ≡ length l.initial.ends;
  done : (k : ℕ) → length l.ends ≤ k + l.back → k + 1 < length l.ends → get_or l.ends k false ≡ (get_or l.initial.ends k false || get_or l.ends (k + 1) false);
  left : (k : ℕ) → k + l.back < length l.ends → get_or l.ends k false ≡ get_or l.initial.ends k false;
  last : (k : ℕ) → k + 1 ≡ length l.ends → get_or l.ends k false ≡ get_or l.initial.ends k false;
}
