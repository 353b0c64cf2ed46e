-- Keys each of which is below the next.
use Rattle.std.proofs.Common.{◌≡◌, ℕ, true, List, [], ◌∷◌, refl, Ordering, Less, Equal, Greater}
use Rattle.std.specs.List.{AllByRecursion}
use Rattle.std.specs.List.Sorted.{IsStrictlySortedBy}
use Rattle.std.specs.Ordering.{is_lt}
use Rattle.cr_value.specs.Order.{bytes_cmp}
use Rattle.cr_value.specs.OrderLaws.{bytes_total}
use Rattle.cr_delta.proofs.Among.{and_true}
use Rattle.cr_guard.specs.Heard.{are_rising}

lt_true : (o : Ordering) → is_lt o ≡ true → o ≡ Less
lt_true Less e = refl
lt_true Equal e = absurd cc
lt_true Greater e = absurd cc

below_all : (k l : List ℕ) (ks : List (List ℕ)) → bytes_cmp k l ≡ Less → AllByRecursion (λ m. bytes_cmp l m ≡ Less) ks → AllByRecursion (λ m. bytes_cmp k m ≡ Less) ks
below_all k l [] less all = tt
below_all k l (m ∷ ks) less all = (bytes_total.trans k l m less all.0, below_all k l ks less all.1)

pub sorted : (ks : List (List ℕ)) → are_rising ks ≡ true → IsStrictlySortedBy bytes_cmp ks
unfolding IsStrictlySortedBy
sorted [] e = tt
sorted (k ∷ []) e = (tt, tt)
sorted (k ∷ l ∷ ks) e =
    let p = and_true _ _ e in
    let less = lt_true (bytes_cmp k l) p.0 in
    let rest = sorted (l ∷ ks) p.1 in
    ((less, below_all k l ks less rest.0), rest)

pub rising : (ks : List (List ℕ)) → IsStrictlySortedBy bytes_cmp ks → are_rising ks ≡ true
unfolding IsStrictlySortedBy
rising [] s = refl
rising (k ∷ []) s = refl
rising (k ∷ l ∷ ks) s = rw (s.0.0, rising (l ∷ ks) s.1) refl
