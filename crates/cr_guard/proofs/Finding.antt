-- Look-ups among rows in the order of their keys.
use Rattle.std.proofs.Common.{◌≡◌, ℕ, zero, suc, ◌+◌, ◌<◌, Bool, true, false, ◌||◌, List, [], ◌∷◌, ◌++◌, length, map, get_or, take, slice_get, Option, Some, None, refl, sym, ap, subst, ◌∙◌, arith, Ordering, Less, Equal}
use Rattle.std.specs.Prelude.{find}
use Rattle.std.specs.List.{list_any, filter_map, cons_option}
use Rattle.std.specs.Option.{option_to_list, option_copied, IsSome, IfSome}
use Rattle.std.specs.Borrow.{Bor}
use Rattle.std.proofs.lemmas.Option.{slice_get_read}
use Rattle.std.specs.List.Sorted.{IsStrictlySortedBy}
use Rattle.std.specs.Ordering.{is_eq}
use Rattle.std.specs.Cmp.{IsTotalOrder}
use Rattle.std.proofs.lemmas.Cmp.{alike_right}
use Rattle.std.proofs.lemmas.List.{take_more, length-map}
use Rattle.std.proofs.lemmas.List.Elements.{filter_map-append}
use Rattle.cr_delta.proofs.Runs.{all_at}

module _ {X K : Type 0} {R : K → K → Ordering} (o : IsTotalOrder R) (key : X → K) where
  -- the row at the place of its key is the one that is found
  pub found_at : (xs : List X) (i : ℕ) (pk : K) → IsStrictlySortedBy R (map key xs) → i < length (map key xs) → ((d : K) → R (get_or (map key xs) i d) pk ≡ Equal) → slice_get xs i ≡ find (λ x. is_eq (R (key x) pk)) xs
  unfolding IsStrictlySortedBy
  found_at [] i pk s lt tie = absurd (omega arith)
  found_at (x ∷ xs) zero pk s lt tie = let is : R (key x) pk ≡ Equal = tie (key x) in rw is refl
  found_at (x ∷ xs) (suc i) pk s lt tie =
      let below : i < length (map key xs) = omega arith in
      let less : R (key x) (get_or (map key xs) i (key x)) ≡ Less = all_at (λ y. R (key x) y ≡ Less) (map key xs) s.0 i (key x) below in
      let apart : R (key x) pk ≡ Less = sym (alike_right o _ pk (key x) (tie (key x))) ∙ less in
      rw apart (found_at xs i pk s.1 below tie)

  -- what is read at that place
  pub got : (r : Option (Bor X)) (xs : List X) (i : ℕ) → i < length (map key xs) → (i < length xs → IsSome r) → IfSome r (λ x. x.now ≡ get_or xs i x.now) → option_copied r ≡ slice_get xs i
  got None xs i lt some is = let no = some (subst (λ (n : ℕ). i < n) (length-map xs key) lt) in absurd cc
  got (Some x) xs i lt some is = sym (slice_get_read xs (length xs) i x.now refl (subst (λ (n : ℕ). i < n) (length-map xs key) lt) is)

  -- where no key is this one, none is found
  pub none_found : (xs : List X) (pk : K) → list_any (λ k. is_eq (R k pk)) (map key xs) ≡ false → find (λ x. is_eq (R (key x) pk)) xs ≡ None
  none_found [] pk h = refl
  none_found (x ∷ xs) pk h = by (is_eq (R (key x) pk)) refl h (none_found xs pk)
    where
      by : (b : Bool) → is_eq (R (key x) pk) ≡ b → (b || list_any (λ k. is_eq (R k pk)) (map key xs)) ≡ false
          → (list_any (λ k. is_eq (R k pk)) (map key xs) ≡ false → find (λ y. is_eq (R (key y) pk)) xs ≡ None) → find (λ y. is_eq (R (key y) pk)) (x ∷ xs) ≡ None
      by true e n rest = absurd cc
      by false e n rest = rw e (rest n)

one_of : {A B : Type 0} (f : A → Option B) (x : A) → filter_map f (x ∷ []) ≡ option_to_list (f x)
one_of f x = elim (f x) as (λ o. cons_option o [] ≡ option_to_list o) [ None ↦ refl | Some v ↦ refl ]

-- what is given of the items up to one, and of that one
pub more_of : {A B : Type 0} (f : A → Option B) (xs : List A) (i : ℕ) (x : A) → i < length xs → x ≡ get_or xs i x
    → filter_map f (take (i + 1) xs) ≡ filter_map f (take i xs) ++ option_to_list (f x)
more_of f xs i x lt is =
    ap (filter_map f) (take_more xs i x lt)
    ∙ filter_map-append f (take i xs) (get_or xs i x ∷ [])
    ∙ ap (λ y. filter_map f (take i xs) ++ filter_map f (y ∷ [])) (sym is)
    ∙ ap (λ vs. filter_map f (take i xs) ++ vs) (one_of f x)
