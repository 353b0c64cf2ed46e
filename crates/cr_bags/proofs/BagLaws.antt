-- What lists with the same members give in common.
use Rattle.std.proofs.Common.{◌≡◌, ℕ, zero, suc, ◌+◌, Bool, true, false, cond, map, List, [], ◌∷◌, ◌++◌, Option, Some, None, option_map, refl, sym, ap, ◌∙◌, arith, add_assoc, zero-add}
use Rattle.std.specs.Option.{option_and_then}
use Rattle.std.specs.Prelude.{filter}
use Rattle.std.specs.List.{sum_by}
use Rattle.std.specs.List.Sorted.{IsPermutation}
use Rattle.std.proofs.lemmas.List.Sums.{sum_by-cons}
use Rattle.std.proofs.lemmas.List.Sorted.{sum_by-IsPermutation}
use Rattle.cr_bags.specs.Bags.{weight, SameBag, joins, gather, plus, Alike}

-- ---- weights

pub weight-append : {X : Type 0} (f : X → ℕ) (xs ys : List X) → weight f (xs ++ ys) ≡ weight f xs + weight f ys
weight-append f [] ys = sym (zero-add (weight f ys))
weight-append f (x ∷ xs) ys = ap (λ n. f x + n) (weight-append f xs ys) ∙ sym (add_assoc (f x) (weight f xs) (weight f ys))

pub weight-map : {X Y : Type 0} (f : Y → ℕ) (g : X → Y) (xs : List X) → weight f (map g xs) ≡ weight (λ x. f (g x)) xs
weight-map f g [] = refl
weight-map f g (x ∷ xs) = ap (λ n. f (g x) + n) (weight-map f g xs)

pub weight-filter : {X : Type 0} (f : X → ℕ) (p : X → Bool) (xs : List X) → weight f (filter p xs) ≡ weight (λ x. cond (p x) (f x) 0) xs
weight-filter f p [] = refl
weight-filter f p (x ∷ xs) =
    elim (p x) as (λ b. weight f (cond b (x ∷ filter p xs) (filter p xs)) ≡ cond b (f x) 0 + weight (λ x. cond (p x) (f x) 0) xs) [
      | true ↦ ap (λ n. f x + n) (weight-filter f p xs)
      | false ↦ weight-filter f p xs ∙ sym (zero-add _)
    ]

pub weight-agree : {X : Type 0} (f g : X → ℕ) → ((x : X) → f x ≡ g x) → (xs : List X) → weight f xs ≡ weight g xs
weight-agree f g h [] = refl
weight-agree f g h (x ∷ xs) = λ i. h x i + weight-agree f g h xs i

pub weight-sum_by : {X : Type 0} (f : X → ℕ) (xs : List X) → weight f xs ≡ sum_by f xs
weight-sum_by f [] = refl
weight-sum_by f (x ∷ xs) = ap (λ n. f x + n) (weight-sum_by f xs) ∙ sym (sum_by-cons f x xs)

-- ---- bags

pub bag-refl : {X : Type 0} (xs : List X) → SameBag xs xs
bag-refl xs = record { weighs = λ f. refl }

pub bag-sym : {X : Type 0} {xs ys : List X} → SameBag xs ys → SameBag ys xs
bag-sym s = record { weighs = λ f. sym (s.weighs f) }

pub bag-trans : {X : Type 0} {xs ys zs : List X} → SameBag xs ys → SameBag ys zs → SameBag xs zs
bag-trans s t = record { weighs = λ f. s.weighs f ∙ t.weighs f }

pub bag-map : {X Y : Type 0} (g : X → Y) {xs ys : List X} → SameBag xs ys → SameBag (map g xs) (map g ys)
bag-map g {xs} {ys} s = record { weighs = λ f. weight-map f g xs ∙ s.weighs (λ x. f (g x)) ∙ sym (weight-map f g ys) }

pub bag-filter : {X : Type 0} (p : X → Bool) {xs ys : List X} → SameBag xs ys → SameBag (filter p xs) (filter p ys)
bag-filter p {xs} {ys} s = record { weighs = λ f. weight-filter f p xs ∙ s.weighs (λ x. cond (p x) (f x) 0) ∙ sym (weight-filter f p ys) }

pub bag-permutation : {X : Type 0} (xs ys : List X) → IsPermutation xs ys → SameBag xs ys
bag-permutation xs ys moved = record { weighs = λ f. weight-sum_by f xs ∙ sym (sum_by-IsPermutation f xs ys moved) ∙ sym (weight-sum_by f ys) }

-- ---- sums that may be faults

abbrev pub osum : {X : Type 0} → (X → Option ℕ) → List X → Option ℕ
osum F [] = Some 0
osum F (x ∷ xs) = plus (F x) (osum F xs)

abbrev is_fault : Option ℕ → ℕ
is_fault None = 1
is_fault (Some n) = 0

abbrev amount : Option ℕ → ℕ
amount None = 0
amount (Some n) = n

abbrev unless : ℕ → ℕ → Option ℕ
unless zero n = Some n
unless (suc k) n = None

unless_one : (k a n : ℕ) → k ≡ 1 + a → unless k n ≡ None
unless_one zero a n e = absurd (let z : ⊥ = omega arith in z)
unless_one (suc k) a n e = refl

plus_unless : (m a b : ℕ) → plus (Some m) (unless a b) ≡ unless a (m + b)
plus_unless m zero b = refl
plus_unless m (suc a) b = refl

osum_is : {X : Type 0} (F : X → Option ℕ) (xs : List X) → osum F xs ≡ unless (weight (λ x. is_fault (F x)) xs) (weight (λ x. amount (F x)) xs)
osum_is F [] = refl
osum_is F (x ∷ xs) =
    elim (F x) as (λ o. plus o (osum F xs) ≡ unless (is_fault o + weight (λ x. is_fault (F x)) xs) (amount o + weight (λ x. amount (F x)) xs)) [
      | None ↦ sym (unless_one _ (weight (λ x. is_fault (F x)) xs) _ refl)
      | Some m ↦ ap (plus (Some m)) (osum_is F xs) ∙ plus_unless m _ _ ∙ ap (λ k. unless k (m + weight (λ x. amount (F x)) xs)) (sym (zero-add (weight (λ x. is_fault (F x)) xs)))
    ]

pub osum_bag : {X : Type 0} (F : X → Option ℕ) {xs ys : List X} → SameBag xs ys → osum F xs ≡ osum F ys
osum_bag F {xs} {ys} s = osum_is F xs ∙ (λ i. unless (s.weighs (λ x. is_fault (F x)) i) (s.weighs (λ x. amount (F x)) i)) ∙ sym (osum_is F ys)

osum_agree : {X : Type 0} (F G : X → Option ℕ) → ((x : X) → F x ≡ G x) → (xs : List X) → osum F xs ≡ osum G xs
osum_agree F G h [] = refl
osum_agree F G h (x ∷ xs) = λ i. plus (h x i) (osum_agree F G h xs i)

-- ---- lists that may be faults

weigh-joins : {X : Type 0} (h : X → ℕ) (o p : Option (List X)) → option_map (weight h) (joins o p) ≡ plus (option_map (weight h) o) (option_map (weight h) p)
weigh-joins h None p = refl
weigh-joins h (Some xs) None = refl
weigh-joins h (Some xs) (Some ys) = ap (λ (n : ℕ). Some n) (weight-append h xs ys)

pub weigh-gather : {X Y : Type 0} (h : Y → ℕ) (f : X → Option (List Y)) (xs : List X) → option_map (weight h) (gather f xs) ≡ osum (λ x. option_map (weight h) (f x)) xs
weigh-gather h f [] = refl
weigh-gather h f (x ∷ xs) = weigh-joins h (f x) (gather f xs) ∙ ap (plus (option_map (weight h) (f x))) (weigh-gather h f xs)

pub alike-refl : {X : Type 0} (o : Option (List X)) → Alike o o
alike-refl o = record { weighs = λ f. refl }

pub alike-some : {X : Type 0} {xs ys : List X} → SameBag xs ys → Alike (Some xs) (Some ys)
alike-some s = record { weighs = λ f. ap (λ (n : ℕ). Some n) (s.weighs f) }

some_same : (a b : ℕ) → Some a ≡ Some b → a ≡ b
some_same a b e = cc

pub bag_of : {X : Type 0} {xs ys : List X} → Alike (Some xs) (Some ys) → SameBag xs ys
bag_of a = record { weighs = λ f. some_same _ _ (a.weighs f) }

pub no_fault : {X : Type 0} {xs : List X} → Alike (Some xs) None → ⊥
no_fault {X} {xs} a = let e : Some (weight (λ (x : X). 0) xs) ≡ None = a.weighs (λ x. 0) in cc

pub no_list : {X : Type 0} {xs : List X} → Alike None (Some xs) → ⊥
no_list {X} {xs} a = let e : None ≡ Some (weight (λ (x : X). 0) xs) = a.weighs (λ x. 0) in cc

-- the law of gathering
pub gather_alike : {X Y : Type 0} (f g : X → Option (List Y)) → ((x : X) → Alike (f x) (g x)) → {xs ys : List X} → SameBag xs ys → Alike (gather f xs) (gather g ys)
gather_alike f g same {xs} {ys} s = record {
  weighs = λ h.
      weigh-gather h f xs
      ∙ osum_agree _ _ (λ x. (same x).weighs h) xs
      ∙ osum_bag _ s
      ∙ sym (weigh-gather h g ys);
}

pub then_alike : {X Y : Type 0} (f g : List X → Option (List Y)) → ((xs ys : List X) → SameBag xs ys → Alike (f xs) (g ys)) → (o p : Option (List X)) → Alike o p → Alike (option_and_then f o) (option_and_then g p)
then_alike f g same (Some xs) (Some ys) a = same xs ys (bag_of a)
then_alike f g same (Some xs) None a = absurd (no_fault a)
then_alike f g same None (Some ys) a = absurd (no_list a)
then_alike f g same None None a = record { weighs = λ h. refl }

pub map_alike : {X Y : Type 0} (f g : List X → List Y) → ((xs ys : List X) → SameBag xs ys → SameBag (f xs) (g ys)) → (o p : Option (List X)) → Alike o p → Alike (option_map f o) (option_map g p)
map_alike f g same (Some xs) (Some ys) a = alike-some (same xs ys (bag_of a))
map_alike f g same (Some xs) None a = absurd (no_fault a)
map_alike f g same None (Some ys) a = absurd (no_list a)
map_alike f g same None None a = record { weighs = λ h. refl }

-- alike lists give one value, where a function of lists gives one for each bag
pub map_same : {X Z : Type 0} (f g : List X → Z) → ((xs ys : List X) → SameBag xs ys → f xs ≡ g ys) → (o p : Option (List X)) → Alike o p → option_map f o ≡ option_map g p
map_same f g same (Some xs) (Some ys) a = ap (λ z. Some z) (same xs ys (bag_of a))
map_same f g same (Some xs) None a = absurd (no_fault a)
map_same f g same None (Some ys) a = absurd (no_list a)
map_same f g same None None a = refl
