-- The greatest of some numbers, from left to right.
use Rattle.std.proofs.Common.{◌≡◌, ◌∙◌, ℕ, ◌+◌, ◌<◌, max, List, length, drop, get_or, sym, ap, arith}
use Rattle.cr_tree.proofs.Loops.{rest_at}
use Rattle.cr_tree.specs.Parameters.{of_all}

turned : (a b c : ℕ) → max (max a b) c ≡ max b (max a c)
turned a b c = omega arith

-- one more part
pub one_more : {A : Type 0} (f : A → ℕ) (xs : List A) (i : ℕ) (x : A) (held all : ℕ) → i < length xs → x ≡ get_or xs i x → max held (of_all f (drop i xs)) ≡ all → max (max (f x) held) (of_all f (drop (i + 1) xs)) ≡ all
one_more f xs i x held all h e k = turned (f x) held (of_all f (drop (i + 1) xs)) ∙ (ap (λ ys. max held (of_all f ys)) (sym (rest_at xs i x h e)) ∙ k)
