-- Of a list whose classes stand together, the first of each run is the first of its class; and a class is one stretch of it.
use Rattle.std.proofs.Common.{◌≡◌, ◌∙◌, ℕ, zero, suc, ◌+◌, ◌-◌, ◌<◌, ◌≤◌, Bool, true, false, not, ◌&&◌, cond, List, [], ◌∷◌, length, length-drop, map, take, drop, get_or, refl, sym, ap, subst, arith, Ordering, Less, Equal, Greater}
use Rattle.std.specs.Prelude.{filter}
use Rattle.std.specs.List.{dedup, dedup_from}
use Rattle.std.specs.List.Sorted.{IsSortedBy, IsSortedByClosure, IsStableBy, IsStableByClosure, IsPartitionedBy, IsPartitionPoint, ties}
use Rattle.std.proofs.lemmas.List.Sorted.{ranks_by, sorted_far}
use Rattle.std.proofs.lemmas.List.{get_or-drop, take_all}
use Rattle.std.specs.Ordering.{is_eq, is_lt, is_le, ordering_reverse, match_ordering}
use Rattle.std.specs.Cmp.{IsTotalOrder, Equal-is, eq_by_cmp_equiv}
use Rattle.std.specs.Fn.{Called, ComparesAs}
use Rattle.std.proofs.lemmas.Fn.{always_returns_same}
use denote.Param.Members.{Mut}
use denote.Ref.{Bor}
use Rattle.cr_bags.specs.Bags.{weight, SameBag, firsts, sort, insert}
use Rattle.std.specs.FinMap.{IsAntisymmetric}
use Rattle.cr_bags.proofs.BagLaws.{bag-trans, bag-filter, bag-map}
use Rattle.cr_bags.proofs.SortLaws.{From, Up, up_from_sorted, up_sort, sort_same}

-- ---- filters

filter_filter : {X : Type 0} (p q : X → Bool) (xs : List X) → filter p (filter q xs) ≡ filter (λ x. q x && p x) xs
filter_filter p q [] = refl
filter_filter p q (x ∷ xs) =
    elim (q x) as (λ b. filter p (cond b (x ∷ filter q xs) (filter q xs)) ≡ cond (b && p x) (x ∷ filter (λ x. q x && p x) xs) (filter (λ x. q x && p x) xs)) [
      | true ↦ (λ i. cond (p x) (x ∷ filter_filter p q xs i) (filter_filter p q xs i))
      | false ↦ filter_filter p q xs
    ]

pub filter_agree : {X : Type 0} (p q : X → Bool) → ((x : X) → p x ≡ q x) → (xs : List X) → filter p xs ≡ filter q xs
filter_agree p q h [] = refl
filter_agree p q h (x ∷ xs) = λ i. cond (h x i) (x ∷ filter_agree p q h xs i) (filter_agree p q h xs i)

pub none_pass : {X : Type 0} (xs : List X) → filter (λ (x : X). false) xs ≡ []
none_pass [] = refl
none_pass (x ∷ xs) = none_pass xs

both_itself : (a : Bool) → a && a ≡ a
both_itself true = refl
both_itself false = refl

both_turned : (a b : Bool) → a && b ≡ b && a
both_turned true true = refl
both_turned true false = refl
both_turned false true = refl
both_turned false false = refl

neither : (a : Bool) → not a && a ≡ false
neither true = refl
neither false = refl

less_of : (r : Ordering) → is_le r ≡ true → is_eq r ≡ false → r ≡ Less
less_of Less h k = refl
less_of Equal h k = absurd cc
less_of Greater h k = absurd cc

neither_less : (r : Ordering) → not (is_lt r) && not (is_lt (ordering_reverse r)) ≡ is_eq r
neither_less Less = refl
neither_less Equal = refl
neither_less Greater = refl

pub filter-map : {X Y : Type 0} (p : Y → Bool) (f : X → Y) (xs : List X) → map f (filter (λ x. p (f x)) xs) ≡ filter p (map f xs)
filter-map p f [] = refl
filter-map p f (x ∷ xs) =
    elim (p (f x)) as (λ b. map f (cond b (x ∷ filter (λ x. p (f x)) xs) (filter (λ x. p (f x)) xs)) ≡ cond b (f x ∷ filter p (map f xs)) (filter p (map f xs))) [
      | true ↦ ap (λ l. f x ∷ l) (filter-map p f xs)
      | false ↦ filter-map p f xs
    ]

pub firsts-map : {X Y : Type 0} (t : Y → Y → Bool) (f : X → Y) (xs : List X) → map f (firsts (λ a b. t (f a) (f b)) xs) ≡ firsts t (map f xs)
firsts-map t f [] = refl
firsts-map t f (x ∷ xs) = ap (λ l. f x ∷ l) (filter-map (λ y. not (t (f x) y)) f (firsts (λ a b. t (f a) (f b)) xs) ∙ ap (filter (λ y. not (t (f x) y))) (firsts-map t f xs))

-- ---- classes

module _ {X : Type 0} (R : X → X → Ordering) (o : IsTotalOrder R) where
  abbrev tie : X → X → Bool
  tie a b = is_eq (R a b)

  -- without a class
  abbrev without : X → List X → List X
  without k xs = filter (λ y. not (tie k y)) xs

  alike : (a b c : X) → tie a b ≡ true → tie a c ≡ tie b c
  alike a b c h = (eq_by_cmp_equiv o).congr a b c h

  turned : (a b : X) → tie a b ≡ tie b a
  turned a b = (eq_by_cmp_equiv o).symm a b

  itself : (a : X) → tie a a ≡ true
  itself a = (eq_by_cmp_equiv o).refl a

  -- what ties with one of two that do not tie does not tie with the other
  apart : (a b c : X) → tie a b ≡ false → tie a c ≡ true → tie b c ≡ false
  apart a b c h k = turned b c ∙ sym (alike a c b k) ∙ h

  without_twice : (k x : X) (xs : List X) → tie k x ≡ true → without k (without x xs) ≡ without k xs
  without_twice k x xs h =
      filter_filter (λ y. not (tie k y)) (λ y. not (tie x y)) xs
      ∙ filter_agree _ (λ y. not (tie k y)) (λ y. ap (λ b. not b && not (tie k y)) (sym (alike k x y h)) ∙ both_itself (not (tie k y))) xs

  without_turned : (k x : X) (xs : List X) → without k (without x xs) ≡ without x (without k xs)
  without_turned k x xs =
      filter_filter (λ y. not (tie k y)) (λ y. not (tie x y)) xs
      ∙ filter_agree _ _ (λ y. both_turned (not (tie x y)) (not (tie k y))) xs
      ∙ sym (filter_filter (λ y. not (tie x y)) (λ y. not (tie k y)) xs)

  -- a class without itself, and another without it
  class_gone : (k x : X) (xs : List X) → tie k x ≡ true → filter (tie x) (without k xs) ≡ []
  class_gone k x xs h =
      filter_filter (tie x) (λ y. not (tie k y)) xs
      ∙ filter_agree _ (λ y. false) (λ y. ap (λ b. not b && tie x y) (alike k x y h) ∙ neither (tie x y)) xs
      ∙ none_pass xs

  class_stays : (k x : X) (xs : List X) → tie k x ≡ false → filter (tie x) (without k xs) ≡ filter (tie x) xs
  class_stays k x xs h =
      filter_filter (tie x) (λ y. not (tie k y)) xs
      ∙ filter_agree _ (tie x) one xs where
        one : (y : X) → not (tie k y) && tie x y ≡ tie x y
        one y =
            elim (tie k y) as (λ b. tie k y ≡ b → not b && tie x y ≡ tie x y) [
              | true ↦ λ e. sym (apart k x y h e)
              | false ↦ λ e. refl
            ] refl

  -- the firsts without a class
  firsts_without : (k : X) (xs : List X) → firsts tie (without k xs) ≡ without k (firsts tie xs)
  firsts_without k [] = refl
  firsts_without k (x ∷ xs) =
      elim (tie k x) as (λ b. tie k x ≡ b → firsts tie (cond (not b) (x ∷ without k xs) (without k xs)) ≡ cond (not b) (x ∷ without k (without x (firsts tie xs))) (without k (without x (firsts tie xs)))) [
        | true ↦ λ e. firsts_without k xs ∙ sym (without_twice k x (firsts tie xs) e)
        | false ↦ λ e. ap (λ (l : List X). x ∷ l) (ap (without x) (firsts_without k xs) ∙ without_turned x k (firsts tie xs))
      ] refl

  swap_bag : (a b : X) (xs : List X) → SameBag (a ∷ b ∷ xs) (b ∷ a ∷ xs)
  swap_bag a b xs = record { weighs = λ f. omega arith }

  more_bag : (a : X) {xs ys : List X} → SameBag xs ys → SameBag (a ∷ xs) (a ∷ ys)
  more_bag a s = record { weighs = λ f. ap (λ n. f a + n) (s.weighs f) }

  -- the first of one class can stand in front
  to_front : (k : X) (rest ys : List X) → filter (tie k) ys ≡ k ∷ rest → SameBag (k ∷ without k (firsts tie ys)) (firsts tie ys)
  to_front k rest [] h = absurd cc
  to_front k rest (y ∷ ys) h =
      elim (tie k y) as (λ b. tie k y ≡ b → cond b (y ∷ filter (tie k) ys) (filter (tie k) ys) ≡ k ∷ rest → SameBag (k ∷ cond (not b) (y ∷ without k (without y (firsts tie ys))) (without k (without y (firsts tie ys)))) (y ∷ without y (firsts tie ys))) [
        | true ↦ λ e h.
            let same : y ≡ k = cc in
            record { weighs = λ f. ap (λ (l : List X). weight f (k ∷ l)) (without_twice k y (firsts tie ys) e) ∙ (λ i. weight f (sym same i ∷ without (sym same i) (firsts tie ys))) }
        | false ↦ λ e h.
            let there = bag-filter (λ z. not (tie y z)) (to_front k rest ys h) in
            let front : without y (k ∷ without k (firsts tie ys)) ≡ k ∷ without k (without y (firsts tie ys)) =
            ap (λ b. cond (not b) (k ∷ without y (without k (firsts tie ys))) (without y (without k (firsts tie ys)))) (turned y k ∙ e) ∙ ap (λ (l : List X). k ∷ l) (without_turned y k (firsts tie ys)) in
            bag-trans (swap_bag k y (without k (without y (firsts tie ys))))
            (more_bag y (record { weighs = λ f. ap (weight f) (sym front) ∙ there.weighs f }))
      ] refl h

  -- where each other class is gone, nothing is left
  nothing_left : (k : X) (ys : List X) → ((x : X) → tie k x ≡ false → [] ≡ filter (tie x) ys) → without k ys ≡ []
  nothing_left k [] h = refl
  nothing_left k (y ∷ ys) h =
      elim (tie k y) as (λ b. tie k y ≡ b → cond (not b) (y ∷ without k ys) (without k ys) ≡ []) [
        | true ↦ λ e. nothing_left k ys (λ x a. h x a ∙ ap (λ b. cond b (y ∷ filter (tie x) ys) (filter (tie x) ys)) (apart k x y a e))
        | false ↦ λ e. absurd (
            let full : [] ≡ y ∷ filter (tie y) ys = h y e ∙ ap (λ b. cond b (y ∷ filter (tie y) ys) (filter (tie y) ys)) (itself y) in
            let z : ⊥ = cc in z)
      ] refl

  -- a class does not come back
  class_over : (k x : X) (zs : List X) → R k x ≡ Less → From R o x zs → filter (tie k) zs ≡ []
  class_over k x [] h b = refl
  class_over k x (z ∷ zs) h b =
      elim (tie k z) as (λ t. tie k z ≡ t → cond t (z ∷ filter (tie k) zs) (filter (tie k) zs) ≡ []) [
        | true ↦ λ e. absurd (
            let below : R z x ≡ Less = sym (o.congr k z x ((Equal-is (R k z)).0 e)) ∙ h in
            let above : is_le (R x z) ≡ false = ap is_le (o.antisymm x z ∙ ap ordering_reverse below) in
            let le : is_le (R x z) ≡ true = b.0 in
            let z : ⊥ = cc in z)
        | false ↦ λ e. class_over k x zs h b.1
      ] refl

  -- what `dedup` leaves of a list in order, where another has the same classes
  dedup_left : (k : X) (zs ys : List X) → From R o k zs → Up R o zs → ((x : X) → tie k x ≡ false → filter (tie x) zs ≡ filter (tie x) ys)
      → SameBag (dedup_from (λ a b. tie a b) k zs) (k ∷ without k (firsts tie ys))
  dedup_left k [] ys b u h =
      more_bag k (record { weighs = λ f. ap (weight f) (sym (ap (firsts tie) (nothing_left k ys h)) ∙ firsts_without k ys) })
  dedup_left k (z ∷ zs) ys b u h =
      elim (tie z k) as (λ t. tie z k ≡ t → SameBag (cond t (dedup_from (λ a b. tie a b) k zs) (k ∷ dedup_from (λ a b. tie a b) z zs)) (k ∷ without k (firsts tie ys))) [
        | true ↦ λ e. dedup_left k zs ys b.1 u.1 (λ x a. ap (λ t. cond t (z ∷ filter (tie x) zs) (filter (tie x) zs)) (sym (apart k x z a (turned k z ∙ e))) ∙ h x a)
        | false ↦ λ e.
            let other : tie k z ≡ false = turned k z ∙ e in
            let below : R k z ≡ Less = less_of (R k z) b.0 other in
            let classes = λ (x : X) (a : tie z x ≡ false).
            elim (tie k x) as (λ t. tie k x ≡ t → filter (tie x) zs ≡ filter (tie x) (without k ys)) [
              | true ↦ λ c. class_over x z zs (sym (o.congr k x z ((Equal-is (R k x)).0 c)) ∙ below) u.0 ∙ sym (class_gone k x ys c)
              | false ↦ λ c. ap (λ t. cond t (z ∷ filter (tie x) zs) (filter (tie x) zs)) (sym (turned x z ∙ a)) ∙ h x c ∙ sym (class_stays k x ys c)
            ] refl in
            let first : filter (tie z) (without k ys) ≡ z ∷ filter (tie z) zs =
            class_stays k z ys other ∙ sym (h z other) ∙ ap (λ t. cond t (z ∷ filter (tie z) zs) (filter (tie z) zs)) (itself z) in
            more_bag k (bag-trans (dedup_left z zs (without k ys) u.0 u.1 classes)
            (bag-trans (to_front z (filter (tie z) zs) (without k ys) first) (record { weighs = λ f. ap (weight f) (firsts_without k ys) })))
      ] refl

  all_gone : (ys : List X) → ((x : X) → [] ≡ filter (tie x) ys) → ys ≡ []
  all_gone [] h = refl
  all_gone (y ∷ ys) h = absurd (
      let full : [] ≡ y ∷ filter (tie y) ys = h y ∙ ap (λ b. cond b (y ∷ filter (tie y) ys) (filter (tie y) ys)) (itself y) in
      let z : ⊥ = cc in z)

  firsts_of_up : (zs ys : List X) → Up R o zs → ((x : X) → filter (tie x) zs ≡ filter (tie x) ys) → SameBag (dedup (λ a b. tie a b) zs) (firsts tie ys)
  firsts_of_up [] ys u h = record { weighs = λ f. ap (λ (l : List X). weight f (firsts tie l)) (sym (all_gone ys h)) }
  firsts_of_up (z ∷ zs) ys u h =
      bag-trans (dedup_left z zs ys u.0 u.1 (λ x a. ap (λ t. cond t (z ∷ filter (tie x) zs) (filter (tie x) zs)) (sym (turned x z ∙ a)) ∙ h x))
      (to_front z (filter (tie z) zs) ys (sym (h z) ∙ ap (λ t. cond t (z ∷ filter (tie z) zs) (filter (tie z) zs)) (itself z)))

  -- ---- what `sort_by` says

  ties_same : (x y : X) → ties (λ a b. is_lt (R a b)) x y ≡ tie x y
  ties_same x y = ap (λ r. not (is_lt (R x y)) && not (is_lt r)) (o.antisymm y x) ∙ neither_less (R x y)

  pub class_moved : (ys zs : List X) → IsStableBy (λ a b. is_lt (R a b)) ys zs → (x : X) → filter (λ y. is_eq (R x y)) zs ≡ filter (λ y. is_eq (R x y)) ys
  class_moved ys zs h x = sym (filter_agree _ _ (ties_same x) zs) ∙ h x ∙ filter_agree _ _ (ties_same x) ys

  -- the first of each run of a list that a stable sort put in order is the first of each class
  pub firsts_of_runs : (ys zs : List X) → IsSortedBy (λ a b. is_lt (R a b)) zs → IsStableBy (λ a b. is_lt (R a b)) ys zs → SameBag (dedup (λ a b. is_eq (R a b)) zs) (firsts (λ a b. is_eq (R a b)) ys)
  firsts_of_runs ys zs sorted stable = firsts_of_up zs ys (up_from_sorted R o zs sorted) (class_moved ys zs stable)

-- the same from the clauses of `sort_by`, where each call compares by R
module _ {X F : Type 0} (R : X → X → Ordering) (o : IsTotalOrder R) {g : Mut F (Bor X × (Bor X × Unit {0})) Ordering} {f : F} (h : (a : Bor X × (Bor X × Unit {0})) (r : Ordering) (f' : F) → Called g f a r f' → (r ≡ R a.0.now a.1.0.now) × (f' ≡ f)) where
  compares : ComparesAs g (λ a b. is_lt (R a b)) f
  compares = always_returns_same g (λ a r. is_lt r ≡ is_lt (R a.0.now a.1.0.now)) f (λ a r f' k. (ap is_lt (h a r f' k).0, (h a r f' k).1))

  pub sorted_so : (xs : List X) → IsSortedByClosure g f xs → IsSortedBy (λ a b. is_lt (R a b)) xs
  sorted_so xs up = up (λ a b. is_lt (R a b)) (ranks_by o (λ x. x)) compares

  pub stable_so : (xs ys : List X) → IsStableByClosure g f xs ys → IsStableBy (λ a b. is_lt (R a b)) xs ys
  stable_so xs ys still = still (λ a b. is_lt (R a b)) (ranks_by o (λ x. x)) compares

  pub firsts_left : (xs ys zs : List X) → IsSortedByClosure g f ys → IsStableByClosure g f xs ys → zs ≡ dedup (λ a b. is_eq (R a b)) ys → SameBag zs (firsts (λ a b. is_eq (R a b)) xs)
  firsts_left xs ys zs up still left = bag-trans (record { weighs = λ n. ap (weight n) left }) (firsts_of_runs R o xs ys (sorted_so ys up) (stable_so xs ys still))

-- ---- firsts of what is in order

module _ {X : Type 0} (S : X → X → Ordering) (s : IsTotalOrder S) where
  from_filter : (p : X → Bool) (x : X) (ys : List X) → From S s x ys → From S s x (filter p ys)
  from_filter p x [] b = tt
  from_filter p x (y ∷ ys) b =
      elim (p y) as (λ c. From S s x (cond c (y ∷ filter p ys) (filter p ys))) [
        | true ↦ (b.0, from_filter p x ys b.1)
        | false ↦ from_filter p x ys b.1
      ]

  up_filter : (p : X → Bool) (ys : List X) → Up S s ys → Up S s (filter p ys)
  up_filter p [] u = tt
  up_filter p (y ∷ ys) u =
      elim (p y) as (λ c. Up S s (cond c (y ∷ filter p ys) (filter p ys))) [
        | true ↦ (from_filter p y ys u.0, up_filter p ys u.1)
        | false ↦ up_filter p ys u.1
      ]

  from_firsts : (t : X → X → Bool) (x : X) (ys : List X) → From S s x ys → From S s x (firsts t ys)
  from_firsts t x [] b = tt
  from_firsts t x (y ∷ ys) b = (b.0, from_filter (λ z. not (t y z)) x (firsts t ys) (from_firsts t x ys b.1))

  up_firsts : (t : X → X → Bool) (ys : List X) → Up S s ys → Up S s (firsts t ys)
  up_firsts t [] u = tt
  up_firsts t (y ∷ ys) u = (from_filter (λ z. not (t y z)) y (firsts t ys) (from_firsts t y ys u.0), up_filter (λ z. not (t y z)) (firsts t ys) (up_firsts t ys u.1))

  insert_least : (x : X) (ys : List X) → From S s x ys → insert S x ys ≡ x ∷ ys
  insert_least x [] b = refl
  insert_least x (y ∷ ys) b =
      elim (S x y) as (λ r. is_le r ≡ true → match_ordering r (x ∷ y ∷ ys) (x ∷ y ∷ ys) (y ∷ insert S x ys) ≡ x ∷ y ∷ ys) [
        | Less ↦ λ h. refl
        | Equal ↦ λ h. refl
        | Greater ↦ λ h. absurd cc
      ] b.0

  sort_up : (xs : List X) → Up S s xs → sort S xs ≡ xs
  sort_up [] u = refl
  sort_up (x ∷ xs) u = ap (insert S x) (sort_up xs u.1) ∙ insert_least x xs u.0

-- the firsts of a sorted list, sorted again after they were found in another order
pub firsts_sorted : {X Y : Type 0} (S : Y → Y → Ordering) → IsTotalOrder S → IsAntisymmetric S → (t : Y → Y → Bool) (v : X → Y) (xs ys ks zs : List X)
    → map v ys ≡ sort S (map v xs) → SameBag ks (firsts (λ a b. t (v a) (v b)) ys) → map v zs ≡ sort S (map v ks) → map v zs ≡ firsts t (sort S (map v xs))
firsts_sorted S s exact t v xs ys ks zs up found again =
    again ∙ sort_same S s exact (bag-trans (bag-map v found) (record { weighs = λ f. ap (weight f) (firsts-map t v ys ∙ ap (firsts t) up) }))
    ∙ sort_up S s (firsts t (sort S (map v xs))) (up_firsts S s t (sort S (map v xs)) (up_sort S s (map v xs)))

-- ---- one class of a list in order

less_is : (r : Ordering) → is_lt r ≡ true → r ≡ Less
less_is Less h = refl
less_is Equal h = absurd cc
less_is Greater h = absurd cc

less_apart : (r : Ordering) → is_lt r ≡ true → is_eq r ≡ false
less_apart Less h = refl
less_apart Equal h = absurd cc
less_apart Greater h = absurd cc

not_apart : (r : Ordering) → is_lt r ≡ false → is_lt (ordering_reverse r) ≡ false → is_eq r ≡ true
not_apart Less h k = absurd cc
not_apart Equal h k = refl
not_apart Greater h k = absurd cc

-- what stands from a place on
pub rest_is : {X : Type 0} (i : ℕ) (xs : List X) → take (length xs - i) (drop i xs) ≡ drop i xs
rest_is i xs = take_all (length xs - i) (drop i xs) (omega (arith, length-drop i xs))

-- what fails a test stands in front
none_before : {X : Type 0} (p : X → Bool) (i : ℕ) (xs : List X) → ((k : ℕ) (d : X) → k < i → p (get_or xs k d) ≡ false) → filter p xs ≡ filter p (drop i xs)
none_before p zero xs h = refl
none_before p (suc i) [] h = refl
none_before p (suc i) (x ∷ xs) h = ap (λ b. cond b (x ∷ filter p xs) (filter p xs)) (h 0 x (omega arith)) ∙ none_before p i xs (λ k d l. h (suc k) d (omega arith))

-- or behind what passes it
all_before : {X : Type 0} (p : X → Bool) (n : ℕ) (xs : List X) → ((k : ℕ) (d : X) → k < n → p (get_or xs k d) ≡ true) → ((k : ℕ) (d : X) → n ≤ k → k < length xs → p (get_or xs k d) ≡ false) → take n xs ≡ filter p xs
all_before {X = X} p zero [] h g = refl
all_before {X = X} p zero (x ∷ xs) h g =
    all_before p zero xs (λ k d l. absurd (omega arith)) (λ k d l m. g (suc k) d (omega arith) (omega arith))
    ∙ ap (λ b. cond b (x ∷ filter p xs) (filter p xs)) (sym (g 0 x (omega arith) (omega arith)))
all_before {X = X} p (suc n) [] h g = refl
all_before {X = X} p (suc n) (x ∷ xs) h g =
    ap (λ (l : List X). x ∷ l) (all_before p n xs (λ k d l. h (suc k) d (omega arith)) (λ k d l m. g (suc k) d (omega arith) (omega arith)))
    ∙ ap (λ b. cond b (x ∷ filter p xs) (filter p xs)) (sym (h 0 x (omega arith)))

module _ {X : Type 0} (R : X → X → Ordering) (o : IsTotalOrder R) (c : X) (xs : List X) where
  less_below : (a b : X) → is_lt (R b a) ≡ false → is_lt (R b c) ≡ true → is_lt (R a c) ≡ true
  less_below a b h e =
      elim (R b a) as (λ r. R b a ≡ r → is_lt r ≡ false → is_lt (R a c) ≡ true) [
        | Less ↦ λ q h. absurd cc
        | Equal ↦ λ q h. ap is_lt (sym (o.congr b a c q)) ∙ e
        | Greater ↦ λ q h. ap is_lt (o.trans a b c (o.antisymm a b ∙ ap ordering_reverse q) (less_is (R b c) e))
      ] refl h

  level_below : (a b : X) → is_lt (R b a) ≡ false → is_lt (R a c) ≡ false → is_eq (R b c) ≡ true → is_eq (R a c) ≡ true
  level_below a b h k e =
      let level : R b a ≡ R c a = o.congr b c a ((Equal-is (R b c)).0 e) in
      not_apart (R a c) k (ap is_lt (sym (o.antisymm c a) ∙ sym level) ∙ h)

  far : IsSortedBy (λ a b. is_lt (R a b)) xs → (i j : ℕ) (d : X) → i ≤ j → j < length xs → is_lt (R (get_or xs j d) (get_or xs i d)) ≡ false
  far up i j d l m = sorted_far (λ a b. is_lt (R a b)) (ranks_by o (λ x. x)) xs up i j d l m

  pub less_parted : IsSortedBy (λ a b. is_lt (R a b)) xs → IsPartitionedBy (λ y. is_lt (R y c)) xs
  less_parted up i j d l m e = less_below (get_or xs i d) (get_or xs j d) (far up i j d l m) e

  module _ (i : ℕ) (within : i ≤ length xs) (split : IsPartitionPoint (λ y. is_lt (R y c) ≡ true) (λ y. is_lt (R y c) ≡ false) xs i) where
    module _ (rest : List X) (is : rest ≡ drop i xs) where
      pub level_parted : IsSortedBy (λ a b. is_lt (R a b)) xs → IsPartitionedBy (λ y. is_eq (R y c)) rest
      level_parted up = subst (IsPartitionedBy (λ y. is_eq (R y c))) (sym is) parted where
        parted : IsPartitionedBy (λ y. is_eq (R y c)) (drop i xs)
        parted j k d l m e =
            let long : length (drop i xs) + i ≡ length xs = omega (arith, length-drop i xs) in
            ap (λ y. is_eq (R y c)) (get_or-drop i xs j d)
            ∙ level_below (get_or xs (i + j) d) (get_or xs (i + k) d) (far up (i + j) (i + k) d (omega arith) (omega arith)) (split.1 (i + j) d (omega arith) (omega arith)) (ap (λ y. is_eq (R y c)) (sym (get_or-drop i xs k d)) ∙ e)

      pub class_is : (n : ℕ) → IsPartitionPoint (λ y. is_eq (R y c) ≡ true) (λ y. is_eq (R y c) ≡ false) rest n → take n rest ≡ filter (λ y. is_eq (R c y)) xs
      class_is n stretch =
          all_before (λ y. is_eq (R y c)) n rest (λ k d l. stretch.0 k d (omega arith) l) stretch.1
          ∙ ap (filter (λ y. is_eq (R y c))) is
          ∙ sym (none_before (λ y. is_eq (R y c)) i xs (λ k d l. less_apart (R (get_or xs k d) c) (split.0 k d (omega arith) l)))
          ∙ filter_agree (λ y. is_eq (R y c)) (λ y. is_eq (R c y)) (λ y. (eq_by_cmp_equiv o).symm y c) xs
