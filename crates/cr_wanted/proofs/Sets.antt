-- The set of a list that grows at its end, of which of equal members the last stays.
use Rattle.std.proofs.Common.{◌≡◌, ◌∙◌, ℕ, Bool, true, false, cond, ◌||◌, List, [], ◌∷◌, ◌++◌, map, Some, is_some, inl, inr, append_assoc, refl, sym, ap, subst, Ordering, Less, Equal, Greater}
use Rattle.std.specs.List.{list_any, AllByRecursion}
use Rattle.std.specs.List.Sorted.{IsStrictlySortedBy}
use Rattle.cr_lattice.proofs.SortedSets.{IsStrictlySortedBy-set_of}
use Rattle.std.specs.BTreeSet.{insert_key, replace_key}
use Rattle.std.specs.BTreeMap.{insert_entry, is_at}
use Rattle.std.specs.Map.{lookup}
use Rattle.std.specs.Ordering.{ordering_reverse, match_ordering, is_eq, on}
use Rattle.std.specs.Cmp.{IsTotalOrder}
use Rattle.std.proofs.lemmas.Cmp.{on_total}
use Rattle.cr_value.specs.Order.{bytes_cmp}
use Rattle.cr_value.specs.OrderLaws.{bytes_total, bytes_exact}
use Rattle.cr_lattice.specs.Check.{same_bytes}
use Rattle.cr_lattice.specs.Sets.{set_of}
use Rattle.cr_delta.proofs.Among.{or_true, or_right}
use Rattle.cr_query.specs.Writes.{repeats}

abbrev placed : {X : Type 0} → (X → X → Ordering) → Ordering → List X → X → X → List X
placed R o xs x k = match_ordering o (k ∷ x ∷ xs) (x ∷ xs) (x ∷ insert_key R xs k)

abbrev replaced : {X : Type 0} → (X → X → Ordering) → Ordering → List X → X → X → List X
replaced R o xs x k = match_ordering o (k ∷ x ∷ xs) (k ∷ xs) (x ∷ replace_key R xs k)

module _ {X : Type 0} (R : X → X → Ordering) (o : IsTotalOrder R) where
  back : (x y : X) (p : Ordering) → R x y ≡ p → R y x ≡ ordering_reverse p
  back x y p e = o.antisymm y x ∙ ap ordering_reverse e

  put_in : (xs : List X) (x k : X) (p : Ordering) → R k x ≡ p → insert_key R (x ∷ xs) k ≡ placed R p xs x k
  put_in xs x k p e = ap (λ q. placed R q xs x k) e

  put_over : (xs : List X) (x k : X) (p : Ordering) → R k x ≡ p → replace_key R (x ∷ xs) k ≡ replaced R p xs x k
  put_over xs x k p e = ap (λ q. replaced R q xs x k) e

  -- to put one in before another takes its place is to do it behind
  commute : (k r : X) (xs : List X) → insert_key R (replace_key R xs r) k ≡ replace_key R (insert_key R xs k) r
  commute k r [] =
      elim (R k r) as (λ p. R k r ≡ p → placed R p [] r k ≡ replace_key R (k ∷ []) r) [
        | Less ↦ λ e. sym (put_over [] k r Greater (back k r Less e))
        | Equal ↦ λ e. sym (put_over [] k r Equal (back k r Equal e))
        | Greater ↦ λ e. sym (put_over [] k r Less (back k r Greater e))
      ] refl
  commute k r (x ∷ xs) =
      elim (R r x) as (λ p. R r x ≡ p → insert_key R (replaced R p xs x r) k ≡ replace_key R (insert_key R (x ∷ xs) k) r) [
        | Less ↦ λ e. below e
        | Equal ↦ λ e. at e
        | Greater ↦ λ e. above e (commute k r xs)
      ] refl where
        below : R r x ≡ Less → insert_key R (r ∷ x ∷ xs) k ≡ replace_key R (insert_key R (x ∷ xs) k) r
        below e =
            elim (R k r) as (λ p. R k r ≡ p → placed R p (x ∷ xs) r k ≡ replace_key R (insert_key R (x ∷ xs) k) r) [
              | Less ↦ λ h.
                  sym (ap (λ l. replace_key R l r) (put_in xs x k Less (o.trans k r x h e))
                  ∙ put_over (x ∷ xs) k r Greater (back k r Less h)
                  ∙ ap (λ l. k ∷ l) (put_over xs x r Less e))
              | Equal ↦ λ h.
                  sym (ap (λ l. replace_key R l r) (put_in xs x k Less (o.congr k r x h ∙ e))
                  ∙ put_over (x ∷ xs) k r Equal (back k r Equal h))
              | Greater ↦ λ h.
                  elim (R k x) as (λ p. R k x ≡ p → r ∷ placed R p xs x k ≡ replace_key R (placed R p xs x k) r) [
                    | Less ↦ λ i. sym (put_over (x ∷ xs) k r Less (back k r Greater h))
                    | Equal ↦ λ i. sym (put_over xs x r Less e)
                    | Greater ↦ λ i. sym (put_over (insert_key R xs k) x r Less e)
                  ] refl
            ] refl

        at : R r x ≡ Equal → insert_key R (r ∷ xs) k ≡ replace_key R (insert_key R (x ∷ xs) k) r
        at e =
            let same : R k r ≡ R k x = o.antisymm k r ∙ ap ordering_reverse (o.congr r x k e) ∙ sym (o.antisymm k x) in
            elim (R k x) as (λ p. R k x ≡ p → insert_key R (r ∷ xs) k ≡ replace_key R (placed R p xs x k) r) [
              | Less ↦ λ h. put_in xs r k Less (same ∙ h) ∙ sym (put_over (x ∷ xs) k r Greater (back k r Less (same ∙ h)) ∙ ap (λ l. k ∷ l) (put_over xs x r Equal e))
              | Equal ↦ λ h. put_in xs r k Equal (same ∙ h) ∙ sym (put_over xs x r Equal e)
              | Greater ↦ λ h. put_in xs r k Greater (same ∙ h) ∙ sym (put_over (insert_key R xs k) x r Equal e)
            ] refl

        above : R r x ≡ Greater → insert_key R (replace_key R xs r) k ≡ replace_key R (insert_key R xs k) r → insert_key R (x ∷ replace_key R xs r) k ≡ replace_key R (insert_key R (x ∷ xs) k) r
        above e later =
            elim (R k x) as (λ p. R k x ≡ p → placed R p (replace_key R xs r) x k ≡ replace_key R (placed R p xs x k) r) [
              | Less ↦ λ h.
                  sym (put_over (x ∷ xs) k r Greater (back k r Less (o.trans k x r h (back r x Greater e)))
                  ∙ ap (λ l. k ∷ l) (put_over xs x r Greater e))
              | Equal ↦ λ h. sym (put_over xs x r Greater e)
              | Greater ↦ λ h. ap (λ l. x ∷ l) later ∙ sym (put_over (insert_key R xs k) x r Greater e)
            ] refl

  -- one more at the end
  pub set-more : (xs : List X) (r : X) → set_of R (xs ++ r ∷ []) ≡ replace_key R (set_of R xs) r
  set-more [] r = refl
  set-more (x ∷ xs) r = ap (λ l. insert_key R l x) (set-more xs r) ∙ commute x r (set_of R xs)

  module _ (p : X → Bool) (blind : (a b : X) → R a b ≡ Equal → p a ≡ p b) where
    or_swap : (a b c : Bool) → (a || (b || c)) ≡ (b || (a || c))
    or_swap true true c = refl
    or_swap true false c = refl
    or_swap false b c = refl

    or_same : (a b : Bool) → (a || b) ≡ (a || (a || b))
    or_same true b = refl
    or_same false b = refl

    any-insert : (xs : List X) (k : X) → list_any p (insert_key R xs k) ≡ (p k || list_any p xs)
    any-insert [] k = refl
    any-insert (x ∷ xs) k =
        elim (R k x) as (λ q. R k x ≡ q → list_any p (placed R q xs x k) ≡ (p k || (p x || list_any p xs))) [
          | Less ↦ λ e. refl
          | Equal ↦ λ e. or_same (p x) (list_any p xs) ∙ ap (λ b. b || (p x || list_any p xs)) (sym (blind k x e))
          | Greater ↦ λ e. ap (λ b. p x || b) (any-insert xs k) ∙ or_swap (p x) (p k) (list_any p xs)
        ] refl

    -- what ties tells apart alone is among the members as it is in the list
    pub any-set : (xs : List X) → list_any p (set_of R xs) ≡ list_any p xs
    any-set [] = refl
    any-set (x ∷ xs) = any-insert (set_of R xs) x ∙ ap (λ b. p x || b) (any-set xs)

-- one more that was read
pub read : {X : Type 0} (xs : List X) (x : X) (rest was all : List X) → was ≡ x ∷ rest → xs ++ was ≡ all → (xs ++ x ∷ []) ++ rest ≡ all
read xs x rest was all h w = append_assoc xs (x ∷ []) rest ∙ ap (λ l. xs ++ l) (sym h) ∙ w

-- ---- members under their keys

module _ {X : Type 0} (f : X → List ℕ) where
  abbrev pub under : X → List ℕ × X
  under x = (f x, x)

  abbrev pub by : X → X → Ordering
  by = on f bytes_cmp

  by_total : IsTotalOrder (on f bytes_cmp)
  by_total = on_total f bytes_total

  -- a map takes one more, which stands in the place of one with the same key
  pub entries-more : (r : X) (xs : List X) → insert_entry bytes_cmp (map under xs) (f r) r ≡ map under (replace_key by xs r)
  entries-more r [] = refl
  entries-more r (x ∷ xs) =
      elim (bytes_cmp (f r) (f x)) as (λ o. bytes_cmp (f r) (f x) ≡ o → match_ordering o ((f r, r) ∷ (f x, x) ∷ map under xs) ((f x, r) ∷ map under xs) ((f x, x) ∷ insert_entry bytes_cmp (map under xs) (f r) r)
      ≡ map under (match_ordering o (r ∷ x ∷ xs) (r ∷ xs) (x ∷ replace_key by xs r))) [
        | Less ↦ λ e. refl
        | Equal ↦ λ e. ap (λ (k : List ℕ). (k, r) ∷ map under xs) (sym (bytes_exact (f r) (f x) e))
        | Greater ↦ λ e. ap (λ l. (f x, x) ∷ l) (entries-more r xs)
      ] refl

  pub values-under : (xs : List X) → map (λ (e : List ℕ × X). e.1) (map under xs) ≡ xs
  values-under [] = refl
  values-under (x ∷ xs) = ap (λ l. x ∷ l) (values-under xs)

  -- the member under a key
  found : (k : List ℕ) (xs : List X) → is_some (lookup (is_at (bytes_cmp k)) (map under xs)) ≡ list_any (λ x. same_bytes k (f x)) xs
  found k [] = refl
  found k (x ∷ xs) =
      elim (same_bytes k (f x)) as (λ b. is_some (cond b (Some x) (lookup (is_at (bytes_cmp k)) (map under xs))) ≡ (b || list_any (λ x. same_bytes k (f x)) xs)) [
        | true ↦ refl
        | false ↦ found k xs
      ]

  eq_reverse : (o : Ordering) → is_eq (ordering_reverse o) ≡ is_eq o
  eq_reverse Less = refl
  eq_reverse Equal = refl
  eq_reverse Greater = refl

  turned : (a b : List ℕ) → same_bytes a b ≡ same_bytes b a
  turned a b = ap is_eq (bytes_total.antisymm a b) ∙ eq_reverse (bytes_cmp b a)

  -- a key that is there
  pub found-in : (r : X) (xs : List X) → is_some (lookup (is_at (bytes_cmp (f r))) (map under (set_of by xs))) ≡ list_any (λ x. same_bytes (f r) (f x)) xs
  found-in r xs = found (f r) (set_of by xs) ∙ any-set by by_total (λ x. same_bytes (f r) (f x)) (λ a b e. ap (same_bytes (f r)) (bytes_exact (f a) (f b) e)) xs

  any-end : (p : List ℕ → Bool) (xs : List X) (r : X) → list_any p (map f (xs ++ r ∷ [])) ≡ (list_any p (map f xs) || p (f r))
  any-end p [] r = or_false (p (f r)) where
    or_false : (b : Bool) → (b || false) ≡ b
    or_false true = refl
    or_false false = refl
  any-end p (x ∷ xs) r = ap (λ b. p (f x) || b) (any-end p xs r) ∙ or_assoc (p (f x)) (list_any p (map f xs)) (p (f r)) where
    or_assoc : (a b c : Bool) → (a || (b || c)) ≡ ((a || b) || c)
    or_assoc true b c = refl
    or_assoc false b c = refl

  -- whether some key stands twice, with one more at the end
  pub repeats-more : (xs : List X) (r : X) → repeats (map f (xs ++ r ∷ [])) ≡ (repeats (map f xs) || list_any (λ x. same_bytes (f r) (f x)) xs)
  repeats-more [] r = refl
  repeats-more (x ∷ xs) r =
      (λ i. any-end (same_bytes (f x)) xs r i || repeats-more xs r i)
      ∙ ap (λ b. (list_any (same_bytes (f x)) (map f xs) || b) || (repeats (map f xs) || list_any (λ x. same_bytes (f r) (f x)) xs)) (turned (f x) (f r))
      ∙ four (list_any (same_bytes (f x)) (map f xs)) (same_bytes (f r) (f x)) (repeats (map f xs)) (list_any (λ x. same_bytes (f r) (f x)) xs) where
        four : (a b c d : Bool) → ((a || b) || (c || d)) ≡ ((a || c) || (b || d))
        four true b c d = refl
        four false true true d = refl
        four false true false d = refl
        four false false c d = refl

  repeats-front : (xs ys : List X) → repeats (map f xs) ≡ true → repeats (map f (xs ++ ys)) ≡ true
  repeats-front [] ys h = absurd cc
  repeats-front (x ∷ xs) ys h =
      elim (or_true (list_any (same_bytes (f x)) (map f xs)) (repeats (map f xs)) h) [
        | inl here ↦ ap (λ b. b || repeats (map f (xs ++ ys))) (any-front (same_bytes (f x)) xs here)
        | inr there ↦ or_right (list_any (same_bytes (f x)) (map f (xs ++ ys))) (repeats (map f (xs ++ ys))) (repeats-front xs ys there)
      ] where
        any-front : (p : List ℕ → Bool) (xs : List X) → list_any p (map f xs) ≡ true → list_any p (map f (xs ++ ys)) ≡ true
        any-front p [] h = absurd cc
        any-front p (x ∷ xs) h =
            elim (or_true (p (f x)) (list_any p (map f xs)) h) [
              | inl here ↦ ap (λ b. b || list_any p (map f (xs ++ ys))) here
              | inr there ↦ or_right (p (f x)) (list_any p (map f (xs ++ ys))) (any-front p xs there)
            ]

  -- ---- rows put under their keys, one after another

  module _ (xs : List X) (r : X) (entries : List (List ℕ × X)) (are : entries ≡ map under (set_of by xs)) where
    known : (b : Bool) → b ≡ is_some (lookup (is_at (bytes_cmp (f r))) entries) → list_any (λ x. same_bytes (f r) (f x)) xs ≡ b
    known b told = sym (found-in r xs) ∙ ap (λ es. is_some (lookup (is_at (bytes_cmp (f r))) es)) (sym are) ∙ sym told

    -- its key was there
    pub stands_twice : (ys : List X) (b : Bool) → b ≡ is_some (lookup (is_at (bytes_cmp (f r))) entries) → b ≡ true → repeats (map f ((xs ++ r ∷ []) ++ ys)) ≡ true
    stands_twice ys b told t = repeats-front (xs ++ r ∷ []) ys (repeats-more xs r ∙ or_right (repeats (map f xs)) (list_any (λ x. same_bytes (f r) (f x)) xs) (known b told ∙ t))

    pub stands_once : (b : Bool) → b ≡ is_some (lookup (is_at (bytes_cmp (f r))) entries) → b ≡ false → repeats (map f xs) ≡ false → repeats (map f (xs ++ r ∷ [])) ≡ false
    stands_once b told n once = repeats-more xs r ∙ (λ i. once i || (known b told ∙ n) i)

    pub one_more : (new : List (List ℕ × X)) → new ≡ insert_entry bytes_cmp entries (f r) r → new ≡ map under (set_of by (xs ++ r ∷ []))
    one_more new is =
        is ∙ ap (λ es. insert_entry bytes_cmp es (f r) r) are ∙ entries-more r (set_of by xs) ∙ ap (map under) (sym (set-more by by_total xs r))

  -- ---- the keys of a set

  keys-insert : (xs : List X) (k : X) → map f (insert_key by xs k) ≡ insert_key bytes_cmp (map f xs) (f k)
  keys-insert [] k = refl
  keys-insert (x ∷ xs) k =
      elim (bytes_cmp (f k) (f x)) as (λ o. map f (match_ordering o (k ∷ x ∷ xs) (x ∷ xs) (x ∷ insert_key by xs k)) ≡ match_ordering o (f k ∷ f x ∷ map f xs) (f x ∷ map f xs) (f x ∷ insert_key bytes_cmp (map f xs) (f k))) [
        | Less ↦ refl
        | Equal ↦ refl
        | Greater ↦ ap (λ l. f x ∷ l) (keys-insert xs k)
      ]

  keys-set : (xs : List X) → map f (set_of by xs) ≡ set_of bytes_cmp (map f xs)
  keys-set [] = refl
  keys-set (x ∷ xs) = keys-insert (set_of by xs) x ∙ ap (λ l. insert_key bytes_cmp l (f x)) (keys-set xs)

  pub keys_rise : (xs : List X) → IsStrictlySortedBy bytes_cmp (map f (set_of by xs))
  keys_rise xs = subst (IsStrictlySortedBy bytes_cmp) (sym (keys-set xs)) (IsStrictlySortedBy-set_of bytes_total bytes_exact (map f xs))

  module _ (P : X → Type 0) where
    all-insert : (xs : List X) (k : X) → P k → AllByRecursion P xs → AllByRecursion P (insert_key by xs k)
    all-insert [] k h all = (h, tt)
    all-insert (x ∷ xs) k h all =
        elim (bytes_cmp (f k) (f x)) as (λ o. AllByRecursion P (match_ordering o (k ∷ x ∷ xs) (x ∷ xs) (x ∷ insert_key by xs k))) [
          | Less ↦ (h, all)
          | Equal ↦ all
          | Greater ↦ (all.0, all-insert xs k h all.1)
        ]

    pub all-set : (xs : List X) → AllByRecursion P xs → AllByRecursion P (set_of by xs)
    all-set [] all = tt
    all-set (x ∷ xs) all = all-insert (set_of by xs) x all.0 (all-set xs all.1)
