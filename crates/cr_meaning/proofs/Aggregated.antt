-- What an aggregate gives of its argument rows depends on which rows there are and how often.
use Rattle.std.proofs.Common.{◌≡◌, ◌∙◌, ℕ, zero, suc, ◌+◌, ℤ, pos, negsuc, ◌+ℤ◌, neg_ℤ, Bool, true, not, cond, List, [], ◌∷◌, length, Option, Some, None, Result, Ok, Err, option_map, refl, sym, ap, arith, Ordering, Less, Equal, Greater}
use Rattle.std.specs.Ordering.{is_lt, is_le, then_cmp, flip_args, match_ordering, ordering_then, ordering_reverse}
use Rattle.std.specs.Cmp.{IsTotalOrder}
use Rattle.std.specs.FinSet.{IsAntisymmetric, slice_cmp-IsAntisymmetric}
use Rattle.std.specs.List.{best_of}
use Rattle.std.proofs.lemmas.Cmp.{lists_total, then_total}
use Rattle.std.proofs.lemmas.Int.{ints}
use Rattle.cr_value.specs.declared.value.Value.{Value}
use Rattle.cr_value.specs.declared.value.Value.TheVariants.{Null, Int}
use Rattle.cr_value.specs.Order.{value_cmp}
use Rattle.cr_value.specs.OrderLaws.{value_total, value_exact}
use Rattle.cr_term.specs.declared.operator.Aggregate.{Aggregate}
use Rattle.cr_term.specs.declared.operator.Aggregate.TheVariants.{CountAll, Count, Max, Min, Sum, Host}
use Rattle.cr_scalar.specs.Meaning.{Outcome, and_then, of_host}
use Rattle.cr_scalar.specs.Numbers.{is_null, number_of, in_range}
use Rattle.cr_scalar.specs.Compare.{Orders, value_cmp_by}
use Rattle.cr_scalar.specs.Functions.{first, extreme}
use Rattle.cr_scalar.specs.Aggregates.{row_cmp, or_zero, total, sum_of, values, aggregate_of}
use Rattle.cr_bags.specs.Bags.{weight, SameBag, insert, sort}
use Rattle.cr_bags.proofs.BagLaws.{bag-map, bag-filter}
use Rattle.cr_bags.proofs.SortLaws.{sort_same}
use Rattle.cr_meaning.specs.Meaning.{value_of}
use Rattle.cr_meaning.proofs.Ordered.{values_total}

abbrev pub Agree : {A : Type 0} → Outcome A → Outcome A → Type 0
Agree m n = value_of m ≡ value_of n

-- ---- counts

counted : {X : Type 0} (xs : List X) → length xs ≡ weight (λ x. 1) xs
counted [] = refl
counted (x ∷ xs) = let ih = counted xs in omega (arith, ih)

pub same_length : {X : Type 0} {xs ys : List X} → SameBag xs ys → length xs ≡ length ys
same_length {X} {xs} {ys} s = counted xs ∙ s.weighs (λ x. 1) ∙ sym (counted ys)

pub same_values : {xs ys : List (List Value)} → SameBag xs ys → SameBag (values xs) (values ys)
same_values s = bag-filter (λ v. not (is_null v)) (bag-map first s)

-- ---- sums

-- how far a number is above 0, and below
abbrev above : Outcome (Option ℤ) → ℕ
above (Ok None) = 0
above (Ok (Some (pos n))) = n
above (Ok (Some (negsuc n))) = 0
above (Err f) = 0

abbrev below : Outcome (Option ℤ) → ℕ
below (Ok None) = 0
below (Ok (Some (pos n))) = 0
below (Ok (Some (negsuc n))) = suc n
below (Err f) = 0

abbrev is_none : Outcome (Option ℤ) → ℕ
is_none (Ok o) = 0
is_none (Err f) = 1

abbrev difference : ℕ → ℕ → ℤ
difference a b = pos a +ℤ neg_ℤ (pos b)

abbrev if_all : ℕ → ℤ → Option ℤ
if_all zero z = Some z
if_all (suc n) z = None

one_more : (n : ℕ) (z : ℤ) → if_all (1 + n) z ≡ None
one_more n z = elim (1 + n) as (λ k. 1 + n ≡ k → if_all k z ≡ None) [ zero ↦ λ e. absurd (let q : ⊥ = omega (arith, e) in q) | suc k ↦ λ e. refl ] refl

none_more : (n : ℕ) (z : ℤ) → if_all (0 + n) z ≡ if_all n z
none_more n z = ap (λ k. if_all k z) (let e : 0 + n ≡ n = omega arith in e)

plus_in : (n : ℕ) (y z w : ℤ) → y +ℤ z ≡ w → option_map (λ k. y +ℤ k) (if_all n z) ≡ if_all n w
plus_in zero y z w e = ap (λ k. Some k) e
plus_in (suc n) y z w e = refl

mapped : (t : Outcome ℤ) (y : ℤ) → value_of (and_then t (λ z. Ok (y +ℤ z))) ≡ option_map (λ k. y +ℤ k) (value_of t)
mapped (Ok z) y = refl
mapped (Err f) y = refl

with_number : (o : Outcome (Option ℤ)) (t : Outcome ℤ) (n a b : ℕ) → value_of t ≡ if_all n (difference a b) → value_of (and_then o (λ k. and_then t (λ z. Ok (or_zero k +ℤ z)))) ≡ if_all (is_none o + n) (difference (above o + a) (below o + b))
with_number (Err f) t n a b e = sym (one_more n _)
with_number (Ok None) t n a b e = mapped t (pos 0) ∙ ap (option_map (λ k. pos 0 +ℤ k)) e ∙ plus_in n (pos 0) (difference a b) (difference (0 + a) (0 + b)) (omega (arith, ints)) ∙ sym (none_more n _)
with_number (Ok (Some (pos k))) t n a b e = mapped t (pos k) ∙ ap (option_map (λ j. pos k +ℤ j)) e ∙ plus_in n (pos k) (difference a b) (difference (k + a) (0 + b)) (omega (arith, ints)) ∙ sym (none_more n _)
with_number (Ok (Some (negsuc k))) t n a b e = mapped t (negsuc k) ∙ ap (option_map (λ j. negsuc k +ℤ j)) e ∙ plus_in n (negsuc k) (difference a b) (difference (0 + a) (suc k + b)) (omega (arith, ints)) ∙ sym (none_more n _)

total_is : (vs : List Value) → value_of (total vs) ≡ if_all (weight (λ v. is_none (number_of v)) vs) (difference (weight (λ v. above (number_of v)) vs) (weight (λ v. below (number_of v)) vs))
total_is [] = refl
total_is (v ∷ vs) = with_number (number_of v) (total vs) _ _ _ (total_is vs)

same_total : {xs ys : List Value} → SameBag xs ys → value_of (total xs) ≡ value_of (total ys)
same_total {xs} {ys} s =
    total_is xs
    ∙ (λ i. if_all (s.weighs (λ v. is_none (number_of v)) i) (difference (s.weighs (λ v. above (number_of v)) i) (s.weighs (λ v. below (number_of v)) i)))
    ∙ sym (total_is ys)

ranged : (m n : Outcome ℤ) → value_of m ≡ value_of n → Agree (and_then m in_range) (and_then n in_range)
ranged (Ok a) (Ok b) e = ap (λ z. value_of (in_range z)) (let q : a ≡ b = cc in q)
ranged (Ok a) (Err f) e = absurd cc
ranged (Err f) (Ok b) e = absurd cc
ranged (Err f) (Err h) e = refl

same_sum : (xs ys : List Value) → SameBag xs ys → Agree (sum_of xs) (sum_of ys)
same_sum [] [] s = refl
same_sum [] (y ∷ ys) s = absurd (let e = same_length s in let q : ⊥ = omega (arith, e) in q)
same_sum (x ∷ xs) [] s = absurd (let e = same_length s in let q : ⊥ = omega (arith, e) in q)
same_sum (x ∷ xs) (y ∷ ys) s = ranged (total (x ∷ xs)) (total (y ∷ ys)) (same_total s)

-- ---- the least and the greatest

module _ {X : Type 0} (R : X → X → Ordering) (o : IsTotalOrder R) where
  less_le : (x y z : X) → R x y ≡ Less → is_le (R y z) ≡ true → R x z ≡ Less
  less_le x y z h k =
      elim (R y z) as (λ r. R y z ≡ r → is_le r ≡ true → R x z ≡ Less) [
        | Less ↦ λ e _. o.trans x y z h e
        | Equal ↦ λ e _. (
            let same : R z x ≡ R y x = o.congr z y x (o.antisymm z y ∙ ap ordering_reverse e) in
            o.antisymm x z ∙ ap ordering_reverse same ∙ sym (o.antisymm x y) ∙ h)
        | Greater ↦ λ e b. absurd cc
      ] refl k

  le_le : (x y z : X) → is_le (R x y) ≡ true → is_le (R y z) ≡ true → is_le (R x z) ≡ true
  le_le x y z h k =
      elim (R x y) as (λ r. R x y ≡ r → is_le r ≡ true → is_le (R x z) ≡ true) [
        | Less ↦ λ e _. ap is_le (less_le x y z e k)
        | Equal ↦ λ e _. ap is_le (o.congr x y z e) ∙ k
        | Greater ↦ λ e b. absurd cc
      ] refl h

abbrev head_of : List Value → Value
head_of [] = Null
head_of (v ∷ vs) = v

module _ (R : Value → Value → Ordering) (o : IsTotalOrder R) (exact : IsAntisymmetric R) where
  abbrev before : Value → Value → Bool
  before v w = is_lt (R v w)

  abbrev pick : Value → Value → Value
  pick v w = match_ordering (R v w) v v w

  taken : (v w : Value) → cond (before w v) w v ≡ pick v w
  taken v w =
      elim (R v w) as (λ r. R v w ≡ r → cond (before w v) w v ≡ match_ordering r v v w) [
        | Less ↦ λ e. ap (λ r. cond (is_lt r) w v) (o.antisymm w v ∙ ap ordering_reverse e)
        | Equal ↦ λ e. ap (λ r. cond (is_lt r) w v) (o.antisymm w v ∙ ap ordering_reverse e)
        | Greater ↦ λ e. ap (λ r. cond (is_lt r) w v) (o.antisymm w v ∙ ap ordering_reverse e)
      ] refl

  picked : (v w : Value) (r : Ordering) → R v w ≡ r → pick v w ≡ match_ordering r v v w
  picked v w r e = ap (λ q. match_ordering q v v w) e

  -- the three ways in which the first may go before what goes before the third
  first_stays : (v w z : Value) → is_le (R v w) ≡ true → is_le (R w z) ≡ true → pick v z ≡ v
  first_stays v w z h k =
      elim (R v z) as (λ r. is_le r ≡ true → match_ordering r v v z ≡ v) [
        | Less ↦ λ e. refl
        | Equal ↦ λ e. refl
        | Greater ↦ λ e. absurd cc
      ] (le_le R o v w z h k)

  last_stays : (v w z : Value) → R v w ≡ Greater → R w z ≡ Greater → pick v z ≡ z
  last_stays v w z h k =
      let down : R z v ≡ Less = o.trans z w v (o.antisymm z w ∙ ap ordering_reverse k) (o.antisymm w v ∙ ap ordering_reverse h) in
      picked v z Greater (o.antisymm v z ∙ ap ordering_reverse down)

  pick_pick : (v w z : Value) → pick v (pick w z) ≡ pick (pick v w) z
  pick_pick v w z =
      elim (R v w) as (λ r. R v w ≡ r → pick v (pick w z) ≡ pick (match_ordering r v v w) z) [
        | Less ↦ λ e. low e refl
        | Equal ↦ λ e. low e refl
        | Greater ↦ λ e. high e
      ] refl where
        low : {r : Ordering} → R v w ≡ r → is_le r ≡ true → pick v (pick w z) ≡ pick v z
        low {r} e l =
            elim (R w z) as (λ q. R w z ≡ q → pick v (match_ordering q w w z) ≡ pick v z) [
              | Less ↦ λ k. ap (λ p. match_ordering p v v w) e ∙ stays r l ∙ sym (first_stays v w z (ap is_le e ∙ l) (ap is_le k))
              | Equal ↦ λ k. ap (λ p. match_ordering p v v w) e ∙ stays r l ∙ sym (first_stays v w z (ap is_le e ∙ l) (ap is_le k))
              | Greater ↦ λ k. refl
            ] refl where
              stays : (r : Ordering) → is_le r ≡ true → match_ordering r v v w ≡ v
              stays Less l = refl
              stays Equal l = refl
              stays Greater l = absurd cc

        high : R v w ≡ Greater → pick v (pick w z) ≡ pick w z
        high e =
            elim (R w z) as (λ q. R w z ≡ q → pick v (match_ordering q w w z) ≡ match_ordering q w w z) [
              | Less ↦ λ k. picked v w Greater e
              | Equal ↦ λ k. picked v w Greater e
              | Greater ↦ λ k. last_stays v w z e k
            ] refl

  -- what goes first of a list with one more
  head_insert : (v w : Value) (ws : List Value) → head_of (insert R v (w ∷ ws)) ≡ pick v w
  head_insert v w ws =
      elim (R v w) as (λ r. head_of (match_ordering r (v ∷ w ∷ ws) (v ∷ w ∷ ws) (w ∷ insert R v ws)) ≡ match_ordering r v v w) [
        | Less ↦ refl
        | Equal ↦ refl
        | Greater ↦ refl
      ]

  head_twice : (v w : Value) (zs : List Value) → head_of (insert R v (insert R w zs)) ≡ head_of (insert R (pick v w) zs)
  head_twice v w [] = head_insert v w []
  head_twice v w (z ∷ zs) =
      elim (R w z) as (λ r. R w z ≡ r → head_of (insert R v (match_ordering r (w ∷ z ∷ zs) (w ∷ z ∷ zs) (z ∷ insert R w zs))) ≡ pick v (match_ordering r w w z)) [
        | Less ↦ λ e. head_insert v w (z ∷ zs)
        | Equal ↦ λ e. head_insert v w (z ∷ zs)
        | Greater ↦ λ e. head_insert v z (insert R w zs)
      ] refl ∙ pick_pick v w z ∙ sym (head_insert (pick v w) z zs)

  least_of : (v : Value) (vs : List Value) → best_of before v vs ≡ head_of (insert R v (sort R vs))
  least_of v [] = refl
  least_of v (w ∷ ws) = ap (λ u. best_of before u ws) (taken v w) ∙ least_of (pick v w) ws ∙ sym (head_twice v w (sort R ws))

  extreme_is : (vs : List Value) → extreme before vs ≡ head_of (sort R vs)
  extreme_is [] = refl
  extreme_is (v ∷ vs) = least_of v vs

  same_extreme : {xs ys : List Value} → SameBag xs ys → extreme before xs ≡ extreme before ys
  same_extreme {xs} {ys} s = extreme_is xs ∙ ap head_of (sort_same R o exact s) ∙ sym (extreme_is ys)

-- ---- all of them

turned_total : {X : Type 0} {R : X → X → Ordering} → IsTotalOrder R → IsTotalOrder (flip_args R)
turned_total {R = R} o = record { antisymm = λ x y. o.antisymm y x; trans = λ x y z e f. o.trans z y x f e; congr = λ x y z e. o.antisymm z x ∙ ap ordering_reverse (sym (o.congr y x z e)) ∙ sym (o.antisymm z y) }

second_equal : (o p : Ordering) → ordering_then o p ≡ Equal → p ≡ Equal
second_equal Less p e = absurd cc
second_equal Equal p e = e
second_equal Greater p e = absurd cc

module _ (order : Orders) (total : (name : List ℕ) → IsTotalOrder (order name)) (host : List ℕ → List (List Value) → Result Value (List ℕ)) where
  pub same_aggregate : (kind : Aggregate) {xs ys : List (List Value)} → SameBag xs ys → Agree (aggregate_of order host kind xs) (aggregate_of order host kind ys)
  same_aggregate CountAll s = ap (λ n. Some (Int (pos n))) (same_length s)
  same_aggregate Count s = ap (λ n. Some (Int (pos n))) (same_length (same_values s))
  same_aggregate (Max c) s =
      ap (λ v. Some v) (same_extreme (then_cmp (flip_args (value_cmp_by (order c))) value_cmp) (then_total (turned_total (values_total (order c) (total c))) value_total) (λ a b e. value_exact a b (second_equal _ _ e)) (same_values s))
  same_aggregate (Min c) s =
      ap (λ v. Some v) (same_extreme (then_cmp (value_cmp_by (order c)) value_cmp) (then_total (values_total (order c) (total c)) value_total) (λ a b e. value_exact a b (second_equal _ _ e)) (same_values s))
  same_aggregate Sum {xs} {ys} s = same_sum (values xs) (values ys) (same_values s)
  same_aggregate (Host name) s = ap (λ rows. value_of (of_host (host name rows))) (sort_same row_cmp (lists_total value_total) (slice_cmp-IsAntisymmetric value_exact) s)
