-- Sorted lists with the same members show the same.
use Rattle.std.proofs.Common.{◌≡◌, ℕ, suc, ◌+◌, ◌<◌, ◌≤◌, Bool, true, false, cond, map, List, [], ◌∷◌, length, get_or, refl, sym, ap, ◌∙◌, arith, Ordering, Less, Equal, Greater}
use Rattle.std.specs.List.{AllByRecursion}
use Rattle.std.specs.List.Sorted.{IsPermutation, IsSortedBy}
use Rattle.std.specs.Ordering.{is_eq, is_lt, is_le, ordering_reverse, match_ordering}
use Rattle.std.specs.Cmp.{IsTotalOrder, IsStrictWeakOrder, tied_itself}
use Rattle.std.specs.FinMap.{IsAntisymmetric}
use Rattle.std.proofs.lemmas.List.Sorted.{ranks_by, sorted_far}
use Rattle.std.specs.Fn.{Called, ComparesAs}
use Rattle.std.proofs.lemmas.Fn.{always_returns_same}
use denote.Param.Members.{Mut}
use denote.Ref.{Bor}
use Rattle.cr_bags.specs.Bags.{weight, SameBag, insert, sort}
use Rattle.cr_bags.proofs.BagLaws.{bag-permutation, bag-trans, bag-sym}

reverse_equal : (o : Ordering) → ordering_reverse o ≡ Equal → o ≡ Equal
reverse_equal Less e = absurd cc
reverse_equal Equal e = refl
reverse_equal Greater e = absurd cc

module _ {X : Type 0} (R : X → X → Ordering) (o : IsTotalOrder R) where
  abbrev pub From : X → List X → Type 0
  From x ys = AllByRecursion (λ y. is_le (R x y) ≡ true) ys

  abbrev pub Up : List X → Type 0
  Up [] = Unit {0}
  Up (x ∷ xs) = From x xs × Up xs

  flipped : (x y : X) → R x y ≡ Equal → R y x ≡ Equal
  flipped x y e = reverse_equal (R y x) (sym (o.antisymm x y) ∙ e)

  back : (x y : X) → R x y ≡ Greater → R y x ≡ Less
  back x y e = o.antisymm y x ∙ ap ordering_reverse e

  -- below what is no lower
  less_le : (x y z : X) → R x y ≡ Less → is_le (R y z) ≡ true → R x z ≡ Less
  less_le x y z h k =
      elim (R y z) as (λ r. R y z ≡ r → is_le r ≡ true → R x z ≡ Less) [
        | Less ↦ λ e _. o.trans x y z h e
        | Equal ↦ λ e _. (
            let same : R z x ≡ R y x = o.congr z y x (flipped y z e) in
            o.antisymm x z ∙ ap ordering_reverse same ∙ sym (o.antisymm x y) ∙ h)
        | Greater ↦ λ e b. absurd cc
      ] refl k

  le_le : (x y z : X) → is_le (R x y) ≡ true → is_le (R y z) ≡ true → is_le (R x z) ≡ true
  le_le x y z h k =
      elim (R x y) as (λ r. R x y ≡ r → is_le r ≡ true → is_le (R x z) ≡ true) [
        | Less ↦ λ e _. ap is_le (less_le x y z e k)
        | Equal ↦ λ e _. ap is_le (o.congr x y z e) ∙ k
        | Greater ↦ λ e b. absurd cc
      ] refl h

  from_lower : (x y : X) (zs : List X) → is_le (R x y) ≡ true → From y zs → From x zs
  from_lower x y [] h b = tt
  from_lower x y (z ∷ zs) h b = (le_le x y z h b.0, from_lower x y zs h b.1)

  from_insert : (x y : X) (zs : List X) → is_le (R x y) ≡ true → From x zs → From x (insert R y zs)
  from_insert x y [] h b = (h, tt)
  from_insert x y (z ∷ zs) h b =
      elim (R y z) as (λ r. From x (match_ordering r (y ∷ z ∷ zs) (y ∷ z ∷ zs) (z ∷ insert R y zs))) [
        | Less ↦ (h, b)
        | Equal ↦ (h, b)
        | Greater ↦ (b.0, from_insert x y zs h b.1)
      ]

  pub up_insert : (x : X) (ys : List X) → Up ys → Up (insert R x ys)
  up_insert x [] u = (tt, tt)
  up_insert x (y ∷ ys) u =
      elim (R x y) as (λ r. R x y ≡ r → Up (match_ordering r (x ∷ y ∷ ys) (x ∷ y ∷ ys) (y ∷ insert R x ys))) [
        | Less ↦ λ e. ((ap is_le e, from_lower x y ys (ap is_le e) u.0), u)
        | Equal ↦ λ e. ((ap is_le e, from_lower x y ys (ap is_le e) u.0), u)
        | Greater ↦ λ e. (from_insert y x ys (ap is_le (back x y e)) u.0, up_insert x ys u.1)
      ] refl

  pub up_sort : (xs : List X) → Up (sort R xs)
  up_sort [] = tt
  up_sort (x ∷ xs) = up_insert x (sort R xs) (up_sort xs)

  weight-insert : (f : X → ℕ) (x : X) (ys : List X) → weight f (insert R x ys) ≡ f x + weight f ys
  weight-insert f x [] = refl
  weight-insert f x (y ∷ ys) =
      elim (R x y) as (λ r. weight f (match_ordering r (x ∷ y ∷ ys) (x ∷ y ∷ ys) (y ∷ insert R x ys)) ≡ f x + (f y + weight f ys)) [
        | Less ↦ refl
        | Equal ↦ refl
        | Greater ↦ (let h = weight-insert f x ys in omega (arith, h))
      ]

  pub bag-sort : (xs : List X) → SameBag (sort R xs) xs
  bag-sort xs = record { weighs = λ f. go f xs } where
    go : (f : X → ℕ) (xs : List X) → weight f (sort R xs) ≡ weight f xs
    go f [] = refl
    go f (x ∷ xs) = weight-insert f x (sort R xs) ∙ ap (λ n. f x + n) (go f xs)

  -- weights that do not tell what ties apart
  abbrev Blind : (X → ℕ) → Type 0
  Blind f = (a b : X) → R a b ≡ Equal → f a ≡ f b

  record SameMod (xs ys : List X) : Type 0 where
    weighs : (f : X → ℕ) → Blind f → weight f xs ≡ weight f ys

  abbrev at : X → X → ℕ
  at x z = cond (is_eq (R x z)) 1 0

  at_blind : (x : X) → Blind (at x)
  at_blind x a b e = ap {B = ℕ} (λ r. cond (is_eq r) 1 0) (o.antisymm x a ∙ ap ordering_reverse (o.congr a b x e) ∙ sym (o.antisymm x b))

  none_at : (x y : X) (zs : List X) → R x y ≡ Less → From y zs → weight (at x) zs ≡ 0
  none_at x y [] h b = refl
  none_at x y (z ∷ zs) h b =
      let e : at x z ≡ 0 = ap {B = ℕ} (λ r. cond (is_eq r) 1 0) (less_le x y z h b.0) in
      let k = none_at x y zs h b.1 in
      omega (arith, e, k)

  apart : (x y : X) (xs ys : List X) → R x y ≡ Less → From y ys → SameMod (x ∷ xs) (y ∷ ys) → ⊥
  apart x y xs ys h b s =
      let e = s.weighs (at x) (at_blind x) in
      let here : at x x ≡ 1 = ap {B = ℕ} (λ r. cond (is_eq r) 1 0) (tied_itself o x) in
      let there : at x y ≡ 0 = ap {B = ℕ} (λ r. cond (is_eq r) 1 0) h in
      let rest = none_at x y ys h b in
      omega (arith, e, here, there, rest)

  module _ {Y : Type 0} (v : X → Y) (same : (a b : X) → R a b ≡ Equal → v a ≡ v b) where
    sorted_mod : (xs ys : List X) → Up xs → Up ys → SameMod xs ys → map v xs ≡ map v ys
    sorted_mod [] [] u w s = refl
    sorted_mod [] (y ∷ ys) u w s = absurd (let e = s.weighs (λ x. 1) (λ a b e. refl) in let z : ⊥ = omega (arith, e) in z)
    sorted_mod (x ∷ xs) [] u w s = absurd (let e = s.weighs (λ x. 1) (λ a b e. refl) in let z : ⊥ = omega (arith, e) in z)
    sorted_mod (x ∷ xs) (y ∷ ys) u w s =
        elim (R x y) as (λ r. R x y ≡ r → map v (x ∷ xs) ≡ map v (y ∷ ys)) [
          | Less ↦ λ e. absurd (apart x y xs ys e w.0 s)
          | Equal ↦ λ e. (λ i. same x y e i ∷ sorted_mod xs ys u.1 w.1 (record { weighs = λ f b. tail f (b x y e) (s.weighs f b) }) i)
          | Greater ↦ λ e. absurd (apart y x ys xs (back x y e) u.0 (record { weighs = λ f b. sym (s.weighs f b) }))
        ] refl where
          tail : (f : X → ℕ) → f x ≡ f y → f x + weight f xs ≡ f y + weight f ys → weight f xs ≡ weight f ys
          tail f h e = omega arith

    -- the law of sorting
    pub sorted_alike : (xs ys : List X) → Up xs → Up ys → SameBag xs ys → map v xs ≡ map v ys
    sorted_alike xs ys u w s = sorted_mod xs ys u w (record { weighs = λ f b. s.weighs f })

    pub sort_alike : {xs ys : List X} → SameBag xs ys → map v (sort R xs) ≡ map v (sort R ys)
    sort_alike {xs} {ys} s = sorted_alike (sort R xs) (sort R ys) (up_sort xs) (up_sort ys) (bag-trans (bag-sort xs) (bag-trans s (bag-sym (bag-sort ys))))

map_id : {X : Type 0} (xs : List X) → map (λ x. x) xs ≡ xs
map_id [] = refl
map_id (x ∷ xs) = ap (λ l. x ∷ l) (map_id xs)

-- where only equal members tie, one bag has one sorted list
pub sort_same : {X : Type 0} (R : X → X → Ordering) (o : IsTotalOrder R) → IsAntisymmetric R → {xs ys : List X} → SameBag xs ys → sort R xs ≡ sort R ys
sort_same R o exact {xs} {ys} s = sym (map_id (sort R xs)) ∙ sort_alike R o (λ x. x) exact s ∙ map_id (sort R ys)

-- ---- what `sort_by` says

module _ {X : Type 0} (R : X → X → Ordering) (o : IsTotalOrder R) where
  abbrev InOrder : List X → Type 0
  InOrder xs = (i j : ℕ) (d : X) → i ≤ j → j < length xs → is_lt (R (get_or xs j d) (get_or xs i d)) ≡ false

  not_lt : (x y : X) → is_lt (R y x) ≡ false → is_le (R x y) ≡ true
  not_lt x y h =
      elim (R y x) as (λ r. R y x ≡ r → is_lt r ≡ false → is_le (R x y) ≡ true) [
        | Less ↦ λ e b. absurd cc
        | Equal ↦ λ e b. ap is_le (o.antisymm x y ∙ ap ordering_reverse e)
        | Greater ↦ λ e b. ap is_le (o.antisymm x y ∙ ap ordering_reverse e)
      ] refl h

  from_each : (x : X) (ys : List X) → ((k : ℕ) → k < length ys → is_lt (R (get_or ys k x) x) ≡ false) → From R o x ys
  from_each x [] h = tt
  from_each x (y ∷ ys) h = (not_lt x y (h 0 (omega arith)), from_each x ys (λ k l. h (suc k) (omega arith)))

  up_from_order : (xs : List X) → InOrder xs → Up R o xs
  up_from_order [] h = tt
  up_from_order (x ∷ xs) h =
      (from_each x xs (λ k l. h 0 (suc k) x (omega arith) (omega arith)), up_from_order xs (λ i j d l m. h (suc i) (suc j) d (omega arith) (omega arith)))

  pub up_from_sorted : (xs : List X) → IsSortedBy (λ x y. is_lt (R x y)) xs → Up R o xs
  up_from_sorted xs s = up_from_order xs (λ i j d l m. sorted_far (λ x y. is_lt (R x y)) (ranks_by o (λ x. x)) xs s i j d l m)

  -- any list in order with the same members shows what `sort` shows
  pub sorted_shows : {Y : Type 0} (v : X → Y) → ((a b : X) → R a b ≡ Equal → v a ≡ v b) → (xs ys : List X) → IsPermutation xs ys → IsSortedBy (λ x y. is_lt (R x y)) ys → map v ys ≡ map v (sort R xs)
  sorted_shows v same xs ys moved sorted =
      sorted_alike R o v same ys (sort R xs) (up_from_sorted ys sorted) (up_sort R o xs) (bag-trans (bag-sym (bag-permutation xs ys moved)) (bag-sym (bag-sort R o xs)))

  -- the same from the clause `sorted` of `sort_by`, where each call compares by R
  pub sorted_by_closure : {Y F : Type 0} (v : X → Y) → ((a b : X) → R a b ≡ Equal → v a ≡ v b) → {g : Mut F (Bor X × (Bor X × Unit {0})) Ordering} {f : F} (xs ys : List X) → IsPermutation xs ys → ((lt : X → X → Bool) → IsStrictWeakOrder lt → ComparesAs g lt f → IsSortedBy lt ys) → ((a : Bor X × (Bor X × Unit {0})) (r : Ordering) (f' : F) → Called g f a r f' → (r ≡ R a.0.now a.1.0.now) × (f' ≡ f)) → map v ys ≡ map v (sort R xs)
  sorted_by_closure v same {g = g} {f = f} xs ys moved up h =
      sorted_shows v same xs ys moved (up (λ x y. is_lt (R x y)) (ranks_by o (λ x. x))
      (always_returns_same g (λ a r. is_lt r ≡ is_lt (R a.0.now a.1.0.now)) f (λ a r f' k. (ap is_lt (h a r f' k).0, (h a r f' k).1))))
