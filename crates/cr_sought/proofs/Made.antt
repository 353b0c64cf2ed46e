-- Lists that are made row by row: of a row comes nothing or one row of its key, and rows of other keys than are sought stay.
use Rattle.std.proofs.Common.{◌≡◌, ◌⊎◌, inl, inr, ◌∙◌, ℕ, Bool, true, false, ◌||◌, cond, List, [], ◌∷◌, ◌++◌, map, Option, Some, None, refl, sym, ap, subst}
use Rattle.std.specs.Prelude.{filter}
use Rattle.std.specs.List.{flat_map, list_any, AllByRecursion}
use Rattle.std.proofs.lemmas.List.Elements.{filter-append}
use Rattle.std.proofs.lemmas.List.Folds.{list_any-append}
use Rattle.cr_lattice.specs.Check.{same_bytes}
use Rattle.cr_lattice.proofs.Tested.{or_false, or_left, or_right}
use Rattle.cr_delta.proofs.Among.{Among}
use Rattle.cr_bags.specs.Bags.{joins, gather, single}
use Rattle.cr_query.specs.Query.{Row}
use Rattle.cr_query.specs.Writes.{repeats}
use Rattle.cr_sought.proofs.Gathered.{all_append, parted}

-- ---- what is gathered

module _ {X Y : Type 0} (h : X → Option (List Y)) (g : X → List Y) where
  -- h gives what g does
  abbrev pub Gives : X → Type 0
  Gives x = h x ≡ Some (g x)

  pub gather_given : (xs : List X) → AllByRecursion Gives xs → gather h xs ≡ Some (flat_map g xs)
  gather_given [] all = refl
  gather_given (x ∷ xs) all = λ i. joins (all.0 i) (gather_given xs all.1 i)

  pub all_given : ((x : X) (us : List Y) → h x ≡ Some us → g x ≡ us) → (xs : List X) (us : List Y) → gather h xs ≡ Some us → AllByRecursion Gives xs
  all_given same [] us e = tt
  all_given same (x ∷ xs) us e =
      let o = parted (h x) (gather h xs) us e in
      (o.2 ∙ ap (λ l. Some l) (sym (same x o.0 o.2)), all_given same xs o.1 o.3)

  -- members that pass, and those that don't
  pub all_both : (p : X → Bool) (xs : List X) → AllByRecursion Gives (filter p xs) → AllByRecursion (λ x. p x ≡ false → Gives x) xs → AllByRecursion Gives xs
  all_both p [] own others = tt
  all_both p (x ∷ xs) own others = by (all_both p xs) (p x) refl own where
    by : (AllByRecursion Gives (filter p xs) → AllByRecursion (λ x. p x ≡ false → Gives x) xs → AllByRecursion Gives xs) → (b : Bool) → p x ≡ b
        → AllByRecursion Gives (cond b (x ∷ filter p xs) (filter p xs)) → Gives x × AllByRecursion Gives xs
    by rest true so own = (own.0, rest own.1 others.1)
    by rest false so own = (others.0 so, rest own others.1)

  -- a fault of one that passes is a fault of all
  pub none_both : (p : X → Bool) (xs : List X) → gather h (filter p xs) ≡ None → gather h xs ≡ None
  none_both p [] e = absurd cc
  none_both p (x ∷ xs) e = by (none_both p xs) (p x) e where
    second : (o q : Option (List Y)) → q ≡ None → joins o q ≡ None
    second None q e = refl
    second (Some us) q e = ap (joins (Some us)) e

    first : (o q r : Option (List Y)) → (q ≡ None → r ≡ None) → joins o q ≡ None → joins o r ≡ None
    first None q r f e = refl
    first (Some us) None r f e = second (Some us) r (f refl)
    first (Some us) (Some vs) r f e = absurd cc

    by : (gather h (filter p xs) ≡ None → gather h xs ≡ None) → (b : Bool) → gather h (cond b (x ∷ filter p xs) (filter p xs)) ≡ None → joins (h x) (gather h xs) ≡ None
    by rest true e = first (h x) (gather h (filter p xs)) (gather h xs) rest e
    by rest false e = second (h x) (gather h xs) (rest e)

-- ---- rows

-- nothing, or one row of this key
abbrev pub IsAtMostOne : (Row → List ℕ) → List ℕ → List Row → Type 0
IsAtMostOne key k us = (us ≡ []) ⊎ ((u : Row) × (us ≡ single u) × (key u ≡ k))

-- what is made of a row: of one of another key than is sought the row itself
pub record Makes (key : Row → List ℕ) (p : List ℕ → Bool) (g : Row → List Row) (r : Row) : Type 0 where
  pub few : IsAtMostOne key (key r) (g r)
  pub stays : p (key r) ≡ false → g r ≡ single r

module _ (key : Row → List ℕ) (p : List ℕ → Bool) (g : Row → List Row) where
  abbrev All : List Row → Type 0
  All = AllByRecursion (Makes key p g)

  abbrev pub made : List Row → List Row
  made = flat_map g

  abbrev pub is_own : Row → Bool
  is_own r = p (key r)

  abbrev pub own : List Row → List Row
  own = filter is_own

  pub all_own : (xs : List Row) → All xs → All (own xs)
  all_own [] all = tt
  all_own (x ∷ xs) all =
      elim (p (key x)) as (λ b. All (cond b (x ∷ own xs) (own xs))) [
        | true ↦ (all.0, all_own xs all.1)
        | false ↦ all_own xs all.1
      ]

  -- a test that no row passes says of all that are made what it says of those of the keys
  pub any_made : (q : Row → Bool) (xs : List Row) → All xs → list_any q xs ≡ false → list_any q (made xs) ≡ list_any q (made (own xs))
  any_made q [] all none = refl
  any_made q (x ∷ xs) all none =
      let o = or_false (q x) (list_any q xs) none in
      let rest = any_made q xs all.1 o.1 in
      elim (p (key x)) as (λ b. p (key x) ≡ b → list_any q (g x ++ made xs) ≡ list_any q (made (cond b (x ∷ own xs) (own xs)))) [
        | true ↦ λ so. list_any-append q (g x) (made xs) ∙ ap (λ t. list_any q (g x) || t) rest ∙ sym (list_any-append q (g x) (made (own xs)))
        | false ↦ λ out. ap (λ us. list_any q (us ++ made xs)) (all.0.stays out) ∙ ap (λ t. t || list_any q (made xs)) o.0 ∙ rest
      ] refl

  -- keys that stand once stand once in what is made
  none_made : (k : List ℕ) (xs : List Row) → All xs → list_any (same_bytes k) (map key xs) ≡ false → list_any (same_bytes k) (map key (made xs)) ≡ false
  none_made k [] all none = refl
  none_made k (x ∷ xs) all none =
      let o = or_false (same_bytes k (key x)) (list_any (same_bytes k) (map key xs)) none in
      let rest = none_made k xs all.1 o.1 in
      elim all.0.few [
        | inl nothing ↦ ap (λ us. list_any (same_bytes k) (map key (us ++ made xs))) nothing ∙ rest
        | inr one ↦
            ap (λ us. list_any (same_bytes k) (map key (us ++ made xs))) one.1
            ∙ ap (λ l. same_bytes k l || list_any (same_bytes k) (map key (made xs))) one.2
            ∙ ap (λ t. t || list_any (same_bytes k) (map key (made xs))) o.0
            ∙ rest
      ]

  pub once_made : (xs : List Row) → All xs → repeats (map key xs) ≡ false → repeats (map key (made xs)) ≡ false
  once_made [] all once = refl
  once_made (x ∷ xs) all once =
      let o = or_false (list_any (same_bytes (key x)) (map key xs)) (repeats (map key xs)) once in
      let rest = once_made xs all.1 o.1 in
      elim all.0.few [
        | inl nothing ↦ ap (λ us. repeats (map key (us ++ made xs))) nothing ∙ rest
        | inr one ↦
            ap (λ us. repeats (map key (us ++ made xs))) one.1
            ∙ ap (λ l. list_any (same_bytes l) (map key (made xs)) || repeats (map key (made xs))) one.2
            ∙ ap (λ t. t || repeats (map key (made xs))) (none_made (key x) xs all.1 o.0)
            ∙ rest
      ]

  -- what is made of the rows of the keys is what has such a key
  own_made : (r : Row) → Makes key p g r → p (key r) ≡ true → filter is_own (g r) ≡ g r
  own_made r m so = elim m.few [
    | inl nothing ↦ ap (filter is_own) nothing ∙ sym nothing
    | inr one ↦
        ap (filter is_own) one.1
        ∙ ap (λ b. cond b (one.0 ∷ []) []) (ap p one.2 ∙ so)
        ∙ sym one.1
  ]

  pub passing : (xs : List Row) → All xs → filter is_own (made xs) ≡ made (own xs)
  passing [] all = refl
  passing (x ∷ xs) all =
      let rest = passing xs all.1 in
      elim (p (key x)) as (λ b. p (key x) ≡ b → filter is_own (g x ++ made xs) ≡ made (cond b (x ∷ own xs) (own xs))) [
        | true ↦ λ so. filter-append is_own (g x) (made xs) ∙ (λ i. own_made x all.0 so i ++ rest i)
        | false ↦ λ out.
            ap (λ us. filter is_own (us ++ made xs)) (all.0.stays out)
            ∙ ap (λ b. cond b (x ∷ filter is_own (made xs)) (filter is_own (made xs))) out
            ∙ rest
      ] refl

  -- what is made under other keys are rows that stay
  pub others_made : (S : Row → Type 0) (xs : List Row) → All xs → AllByRecursion S xs → AllByRecursion (λ r. p (key r) ≡ false → S r) (made xs)
  others_made S [] all shown = tt
  others_made S (x ∷ xs) all shown = by (p (key x)) refl (others_made S xs all.1 shown.1) where
    Outside : Row → Type 0
    Outside r = p (key r) ≡ false → S r

    within : p (key x) ≡ true → AllByRecursion Outside (g x)
    within so = elim all.0.few [
      | inl nothing ↦ subst (AllByRecursion Outside) (sym nothing) tt
      | inr one ↦
          subst (AllByRecursion Outside) (sym one.1) ((λ out. absurd (let e : true ≡ false = sym so ∙ sym (ap p one.2) ∙ out in cc)), tt)
    ]

    by : (b : Bool) → p (key x) ≡ b → AllByRecursion Outside (made xs) → AllByRecursion Outside (g x ++ made xs)
    by true so rest = all_append Outside (g x) (made xs) (within so) rest
    by false out rest = all_append Outside (g x) (made xs) (subst (AllByRecursion Outside) (sym (all.0.stays out)) ((λ o. shown.0), tt)) rest

  -- a row of another key is there still
  pub any_there : (q : Row → Bool) (xs : List Row) → All xs → (x : Row) → Among xs x → p (key x) ≡ false → q x ≡ true → list_any q (made xs) ≡ true
  any_there q [] all x m out so = absurd m
  any_there q (y ∷ ys) all x m out so =
      list_any-append q (g y) (made ys)
      ∙ elim m [
        | inl here ↦ or_left (list_any q (g y)) (list_any q (made ys))
            (ap (list_any q) (all.0.stays (ap (λ r. p (key r)) (sym here) ∙ out)) ∙ or_left (q y) false (ap q (sym here) ∙ so))
        | inr there ↦ or_right (list_any q (g y)) (list_any q (made ys)) (any_there q ys all.1 x there out so)
      ]
