use Rattle.std.proofs.Common.{◌≡◌, ℕ, ◌+◌, ◌<◌, ◌≤◌, ◌&&◌, false, length, get_or}
use Rattle.cr_scalar.specs.Texts.{fits}
use Rattle.cr_scalar.proofs.like.before_one.Given as goal

abbrev pub invariant-loop-at : goal.invariant-loop-at
invariant-loop-at l = record {
  len : length l.ends ≡ length l.text + 1;
  done : (k : ℕ) → k < l.at → get_or l.ends k false ≡ (fits l.wanted (get_or l.text k 0) && get_or l.initial.ends (k + 1) false);
  left : (k : ℕ) → l.at ≤ k → get_or l.ends k false ≡ get_or l.initial.ends k false;
}
