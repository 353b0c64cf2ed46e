-- Sorts by orders of values.
use Rattle.std.proofs.Common.{◌≡◌, ◌∙◌, ℕ, zero, suc, ◌+◌, ◌<◌, Bool, true, false, List, [], ◌∷◌, ◌++◌, length, map, take, drop, get_or, add-one, refl, sym, ap, Ordering, Less, Equal, Greater}
use Rattle.std.specs.Ordering.{is_ne, ordering_reverse, ordering_then, match_ordering, on}
use Rattle.std.specs.Cmp.{IsTotalOrder}
use Rattle.std.proofs.lemmas.Cmp.{on_total, then_total}
use Rattle.cr_value.specs.declared.value.Value.{Value}
use Rattle.cr_value.specs.declared.value.Value.TheVariants.{Null}
use Rattle.cr_host.specs.Registry.{found_order}
use Rattle.cr_host.specs.declared.function.FoundCollation.{FoundCollation}
use Rattle.cr_bags.specs.Bags.{insert, sort}
use Rattle.cr_query.specs.Query.{Row, head_or_null, rest_of, directed}
use Rattle.cr_meaning.proofs.Ordered.{values_total}
use Rattle.std.proofs.lemmas.List.{drop_more, take_more, map-append}
use Rattle.cr_exec.specs.declared.compare.Sense.{Sense}
use Rattle.cr_exec.specs.Comparisons.{ValueOrder, by_orders, held_order}

-- ---- rows, place by place

pub head_at : (i : ℕ) (a : Row) → head_or_null (drop i a) ≡ get_or a i Null
head_at zero [] = refl
head_at zero (v ∷ vs) = refl
head_at (suc i) [] = refl
head_at (suc i) (v ∷ vs) = head_at i vs

-- ---- orders are total

directed_total : (d : Bool) (R : ValueOrder) → IsTotalOrder R → IsTotalOrder (directed d R)
directed_total true R o = record { antisymm = λ x y. o.antisymm y x; trans = λ x y z e f. o.trans z y x f e; congr = λ x y z e. back x y z e } where
  back : (x y z : Value) → R y x ≡ Equal → R z x ≡ R z y
  back x y z e = o.antisymm z x ∙ ap ordering_reverse (sym (o.congr y x z e)) ∙ sym (o.antisymm z y)
directed_total false R o = o

always_total : {K : Type 0} → IsTotalOrder (λ (a b : K). Equal)
always_total = record { antisymm = λ x y. refl; trans = λ x y z e f. e; congr = λ x y z e. refl }

module _ (at : ℕ → List ℕ → List ℕ → Ordering) (total : (found : FoundCollation) → IsTotalOrder (found_order at found)) where
  pub held_total : (ss : List Sense) → IsTotalOrder (by_orders (map (held_order at) ss))
  held_total [] = always_total
  held_total (s ∷ ss) = then_total (on_total head_or_null (directed_total s.is_descending _ (values_total (found_order at s.collation) (total s.collation)))) (on_total rest_of (held_total ss))

-- ---- sorts of what is seen as something else

insert-map : {X Y : Type 0} (R : Y → Y → Ordering) (f : X → Y) (x : X) (ys : List X) → map f (insert (on f R) x ys) ≡ insert R (f x) (map f ys)
insert-map R f x [] = refl
insert-map R f x (y ∷ ys) =
    elim (R (f x) (f y)) as (λ o. map f (match_ordering o (x ∷ y ∷ ys) (x ∷ y ∷ ys) (y ∷ insert (on f R) x ys)) ≡ match_ordering o (f x ∷ f y ∷ map f ys) (f x ∷ f y ∷ map f ys) (f y ∷ insert R (f x) (map f ys))) [
      | Less ↦ refl
      | Equal ↦ refl
      | Greater ↦ ap (λ l. f y ∷ l) (insert-map R f x ys)
    ]

pub sort-map : {X Y : Type 0} (R : Y → Y → Ordering) (f : X → Y) (xs : List X) → map f (sort (on f R) xs) ≡ sort R (map f xs)
sort-map R f [] = refl
sort-map R f (x ∷ xs) = insert-map R f x (sort (on f R) xs) ∙ ap (insert R (f x)) (sort-map R f xs)

rest_suc : (i : ℕ) (a : Row) → rest_of (drop i a) ≡ drop (suc i) a
rest_suc zero [] = refl
rest_suc zero (v ∷ vs) = refl
rest_suc (suc i) [] = refl
rest_suc (suc i) (v ∷ vs) = rest_suc i vs

rest_drop : (i : ℕ) (a : Row) → rest_of (drop i a) ≡ drop (i + 1) a
rest_drop i a = rest_suc i a ∙ ap (λ (n : ℕ). drop n a) (sym (add-one i))

place_step : (at : ℕ → List ℕ → List ℕ → Ordering) (ss : List Sense) (a b : Row) (i : ℕ) (d : Sense) → i < length ss
    → by_orders (map (held_order at) (drop i ss)) (drop i a) (drop i b) ≡ ordering_then (held_order at (get_or ss i d) (get_or a i Null) (get_or b i Null)) (by_orders (map (held_order at) (drop (i + 1) ss)) (drop (i + 1) a) (drop (i + 1) b))
place_step at ss a b i d h =
    ap (λ (l : List Sense). by_orders (map (held_order at) l) (drop i a) (drop i b)) (drop_more ss i d h)
    ∙ (λ j. ordering_then (held_order at (get_or ss i d) (head_at i a j) (head_at i b j)) (by_orders (map (held_order at) (drop (i + 1) ss)) (rest_drop i a j) (rest_drop i b j)))

decided : (o p : Ordering) → is_ne o ≡ true → ordering_then o p ≡ o
decided Less p h = refl
decided Equal p h = absurd cc
decided Greater p h = refl

tied : (o p : Ordering) → is_ne o ≡ false → ordering_then o p ≡ p
tied Less p h = absurd cc
tied Equal p h = refl
tied Greater p h = absurd cc

module _ (at : ℕ → List ℕ → List ℕ → Ordering) (ss : List Sense) (a b : Row) (i : ℕ) (d : Sense) (o whole : Ordering) (n : Bool) (h : i < length ss) (is : o ≡ held_order at (get_or ss i d) (get_or a i Null) (get_or b i Null)) (test : n ≡ is_ne o) (w : by_orders (map (held_order at) (drop i ss)) (drop i a) (drop i b) ≡ whole) where
  abbrev rest : Ordering
  rest = by_orders (map (held_order at) (drop (i + 1) ss)) (drop (i + 1) a) (drop (i + 1) b)

  cut : whole ≡ ordering_then o rest
  cut = sym w ∙ place_step at ss a b i d h ∙ ap (λ p. ordering_then p rest) (sym is)

  pub place_decides : n ≡ true → o ≡ whole
  place_decides t = sym (decided o rest (sym test ∙ t)) ∙ sym cut

  pub place_ties : n ≡ false → rest ≡ whole
  place_ties t = sym (tied o rest (sym test ∙ t)) ∙ sym cut

-- one more that is held
pub sense_pushed : {X : Type 0} (at : ℕ → List ℕ → List ℕ → Ordering) (f : X → ValueOrder) (xs : List X) (i : ℕ) (x : X) (s : Sense) (old new : List Sense) → i < length xs → x ≡ get_or xs i x → held_order at s ≡ f x → new ≡ old ++ s ∷ []
    → map (held_order at) old ≡ map f (take i xs) → map (held_order at) new ≡ map f (take (i + 1) xs)
sense_pushed {X = X} at f xs i x s old new h is same made k =
    ap (map (held_order at)) made ∙ map-append (held_order at) old (s ∷ [])
    ∙ (λ j. k j ++ same j ∷ [])
    ∙ sym (map-append f (take i xs) (x ∷ []))
    ∙ ap (λ (y : X). map f (take i xs ++ y ∷ [])) is
    ∙ ap (map f) (sym (take_more xs i x h))
