-- What is left of a list at an index.
use Rattle.std.proofs.Common.{◌≡◌, ℕ, suc, ◌+◌, ◌<◌, List, ◌∷◌, length, drop, get_or, ap, drop-cons, add-one}

pub rest_at : {A : Type 0} (xs : List A) (i : ℕ) (x : A) → i < length xs → x ≡ get_or xs i x → drop i xs ≡ x ∷ drop (i + 1) xs
rest_at xs i x h e = rw (add-one, drop-cons xs i x h) (ap (λ (y : _). y ∷ drop (suc i) xs) (let s : get_or xs i x ≡ x = cc in s))
