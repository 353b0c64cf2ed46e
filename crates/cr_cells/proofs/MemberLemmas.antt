-- Members of lists, and lists in strict order as the sets of their members.
use Rattle.std.proofs.Common.{◌≡◌, ◌⊎◌, inl, inr, Bool, true, false, ◌||◌, List, [], ◌∷◌, ◌++◌, Some, None, refl, sym, ap, ◌∙◌, subst, Ordering}
use Rattle.std.specs.Prelude.{filter, find}
use Rattle.std.specs.List.{list_any, AllByRecursion, IsDistinct, dedup, dedup_from}
use Rattle.std.specs.List.Sorted.{IsStrictlySortedBy, IsSorted, IsSortedBy, IsPermutation}
use Rattle.std.specs.Ordering.{eq_by_cmp, is_eq, is_lt}
use Rattle.std.specs.Cmp.{IsTotalOrder, IsStrictWeakOrder, tied_itself, eq_by_cmp_equiv}
use Rattle.std.specs.Fn.{Called, ComparesAs}
use Rattle.std.proofs.lemmas.Fn.{always_returns_same}
use Rattle.std.proofs.lemmas.List.MinMax.{ranks_by}
use denote.Ref.{Bor}
use denote.Param.Members.{Mut}
use Rattle.std.specs.FinMap.{IsAntisymmetric}
use Rattle.std.proofs.lemmas.List.Kept.{IsStrictlySortedBy-dedup}
use Rattle.std.proofs.lemmas.List.Sorted.{list_any-IsPermutation}
use Rattle.std.proofs.lemmas.Map.Keys.{IsDistinct-IsPermutation}
use Rattle.cr_lattice.specs.Sets.{set_of}
use Rattle.cr_lattice.proofs.SortedSets.{same_sorted, list_any-set_of, IsStrictlySortedBy-set_of}

pub split : (b : Bool) → (b ≡ true) ⊎ (b ≡ false)
split true = inl refl
split false = inr refl

pub both_ways : (s t : Bool) → (s ≡ true → t ≡ true) → (t ≡ true → s ≡ true) → s ≡ t
both_ways true t f g = sym (f refl)
both_ways false true f g = g refl
both_ways false false f g = refl

or_left : (a b : Bool) → a ≡ true → (a || b) ≡ true
or_left true b e = refl
or_left false b e = absurd cc

or_right : (a b : Bool) → b ≡ true → (a || b) ≡ true
or_right true b e = refl
or_right false b e = e

or_true : (a b : Bool) → (a || b) ≡ true → (a ≡ true) ⊎ (b ≡ true)
or_true true b e = inl refl
or_true false b e = inr e

module _ {X : Type 0} where
  -- x is an element
  abbrev pub Among : List X → X → Type 0
  Among [] x = ⊥
  Among (y ∷ ys) x = (x ≡ y) ⊎ Among ys x

  pub any_gives : (p : X → Bool) (xs : List X) → list_any p xs ≡ true → (x : X) × Among xs x × (p x ≡ true)
  any_gives p [] e = absurd cc
  any_gives p (x ∷ xs) e =
      elim (or_true (p x) (list_any p xs) e) [
        | inl here ↦ (x, inl refl, here)
        | inr there ↦ (let r = any_gives p xs there in (r.0, inr r.1, r.2))
      ]

  pub any_from : (p : X → Bool) (xs : List X) (x : X) → Among xs x → p x ≡ true → list_any p xs ≡ true
  any_from p [] x a e = absurd a
  any_from p (y ∷ ys) x a e =
      elim a [
        | inl same ↦ or_left _ _ (ap p (sym same) ∙ e)
        | inr there ↦ or_right _ _ (any_from p ys x there e)
      ]

  pub all_at : (P : X → Type 0) (xs : List X) (x : X) → AllByRecursion P xs → Among xs x → P x
  all_at P [] x all a = absurd a
  all_at P (y ∷ ys) x all a =
      elim a [
        | inl same ↦ subst P (sym same) all.0
        | inr there ↦ all_at P ys x all.1 there
      ]

  pub all_from : (P : X → Type 0) (xs : List X) → ((x : X) → Among xs x → P x) → AllByRecursion P xs
  all_from P [] f = tt
  all_from P (x ∷ xs) f = (f x (inl refl), all_from P xs (λ y a. f y (inr a)))

  pub Among-filter : (p : X → Bool) (xs : List X) (x : X) → Among (filter p xs) x → Among xs x × (p x ≡ true)
  Among-filter p [] x a = absurd a
  Among-filter p (y ∷ ys) x a =
      elim (split (p y)) [
        | inl so ↦ (let a' : Among (y ∷ filter p ys) x = rw so at a in elim a' [
          | inl same ↦ (inl same, ap p same ∙ so)
          | inr there ↦ (let r = Among-filter p ys x there in (inr r.0, r.1))
        ])
        | inr not_so ↦ (let a' : Among (filter p ys) x = rw not_so at a in let r = Among-filter p ys x a' in (inr r.0, r.1))
      ]

  pub filter-Among : (p : X → Bool) (xs : List X) (x : X) → Among xs x → p x ≡ true → Among (filter p xs) x
  filter-Among p [] x a e = absurd a
  filter-Among p (y ∷ ys) x a e =
      elim (split (p y)) [
        | inl so ↦ rw so (elim a [ inl same ↦ inl same | inr there ↦ inr (filter-Among p ys x there e) ])
        | inr not_so ↦ rw not_so (elim a [
          | inl same ↦ (let e' : p y ≡ true = ap p (sym same) ∙ e in absurd cc)
          | inr there ↦ filter-Among p ys x there e
        ])
      ]

  pub Among-append : (xs ys : List X) (x : X) → Among (xs ++ ys) x → Among xs x ⊎ Among ys x
  Among-append [] ys x a = inr a
  Among-append (y ∷ xs) ys x a =
      elim a [
        | inl same ↦ inl (inl same)
        | inr there ↦ elim (Among-append xs ys x there) [ inl l ↦ inl (inr l) | inr r ↦ inr r ]
      ]

  pub append-left : (xs ys : List X) (x : X) → Among xs x → Among (xs ++ ys) x
  append-left [] ys x a = absurd a
  append-left (y ∷ xs) ys x a = elim a [ inl same ↦ inl same | inr there ↦ inr (append-left xs ys x there) ]

  pub append-right : (xs ys : List X) (x : X) → Among ys x → Among (xs ++ ys) x
  append-right [] ys x a = a
  append-right (y ∷ xs) ys x a = inr (append-right xs ys x a)

  pub same_any : (p : X → Bool) (xs ys : List X) → ((x : X) → Among xs x → Among ys x) → ((x : X) → Among ys x → Among xs x) → list_any p xs ≡ list_any p ys
  same_any p xs ys f g =
      both_ways _ _
      (λ e. (let r = any_gives p xs e in any_from p ys r.0 (f r.0 r.1) r.2))
      (λ e. (let r = any_gives p ys e in any_from p xs r.0 (g r.0 r.1) r.2))

  pub find_gives : (p : X → Bool) (xs : List X) (x : X) → find p xs ≡ Some x → Among xs x × (p x ≡ true)
  find_gives p [] x e = absurd cc
  find_gives p (y ∷ ys) x e =
      elim (split (p y)) [
        | inl so ↦ (let e' : Some y ≡ Some x = rw so at e in let same : y ≡ x = cc in (inl (sym same), ap p (sym same) ∙ so))
        | inr not_so ↦ (let e' : find p ys ≡ Some x = rw not_so at e in let r = find_gives p ys x e' in (inr r.0, r.1))
      ]

  pub find_none : (p : X → Bool) (xs : List X) → find p xs ≡ None → list_any p xs ≡ false
  find_none p [] e = refl
  find_none p (y ∷ ys) e =
      elim (split (p y)) [
        | inl so ↦ (let e' : Some y ≡ None = rw so at e in absurd cc)
        | inr not_so ↦ (let e' : find p ys ≡ None = rw not_so at e in rw not_so (find_none p ys e'))
      ]

  -- ---- distinct elements

  pub apart-filter : (e : X → X → Bool) (p : X → Bool) (xs : List X) → IsDistinct e xs → IsDistinct e (filter p xs)
  unfolding IsDistinct
  apart-filter e p [] d = tt
  apart-filter e p (x ∷ xs) d =
      elim (split (p x)) [
        | inl so ↦ rw so (all_from _ (filter p xs) (λ y a. all_at _ xs y d.0 (Among-filter p xs y a).0), apart-filter e p xs d.1)
        | inr not_so ↦ rw not_so (apart-filter e p xs d.1)
      ]

  pub apart-weaker : (e e' : X → X → Bool) → ((x y : X) → e x y ≡ false → e' x y ≡ false) → (xs : List X) → IsDistinct e xs → IsDistinct e' xs
  unfolding IsDistinct
  apart-weaker e e' f [] d = tt
  apart-weaker e e' f (x ∷ xs) d = (all_from _ xs (λ y a. f x y (all_at _ xs y d.0 a)), apart-weaker e e' f xs d.1)

  -- two elements that e does not tell apart are one
  pub apart_one : (e : X → X → Bool) → ((x y : X) → e x y ≡ e y x) → (xs : List X) (x y : X) → IsDistinct e xs → Among xs x → Among xs y → e x y ≡ true → x ≡ y
  unfolding IsDistinct
  apart_one e flips [] x y d a b h = absurd a
  apart_one e flips (z ∷ zs) x y d a b h =
      elim a [
        | inl same ↦ elim b [
          | inl same' ↦ same ∙ sym same'
          | inr there' ↦ (let no : e z y ≡ false = all_at _ zs y d.0 there' in let yes' : e z y ≡ true = ap (λ w. e w y) (sym same) ∙ h in absurd cc)
        ]
        | inr there ↦ elim b [
          | inl same' ↦ (let no : e z x ≡ false = all_at _ zs x d.0 there in let yes' : e z x ≡ true = flips z x ∙ ap (λ w. e x w) (sym same') ∙ h in absurd cc)
          | inr there' ↦ apart_one e flips zs x y d.1 there there' h
        ]
      ]

-- ---- sets

module _ {X : Type 0} {R : X → X → Ordering} (o : IsTotalOrder R) (exact : IsAntisymmetric R) where
  eq_true : (p : Ordering) → is_eq p ≡ true → p ≡ Ordering.Equal
  eq_true Ordering.Less e = absurd cc
  eq_true Ordering.Equal e = refl
  eq_true Ordering.Greater e = absurd cc

  -- a list in strict order is the set of any list with its members
  pub set_is : (xs ws : List X) → IsStrictlySortedBy R xs → ((x : X) → Among xs x → Among ws x) → ((x : X) → Among ws x → Among xs x) → xs ≡ set_of R ws
  set_is xs ws s f g =
      same_sorted o exact xs (set_of R ws) s (IsStrictlySortedBy-set_of o exact ws)
      (λ q. same_any (eq_by_cmp R q) xs ws f g ∙ sym (list_any-set_of o exact (eq_by_cmp R q) ws))

  moved : (xs ws : List X) → ((q : X) → list_any (eq_by_cmp R q) xs ≡ list_any (eq_by_cmp R q) ws) → (x : X) → Among xs x → Among ws x
  moved xs ws h x a =
      let r = any_gives (eq_by_cmp R x) ws (sym (h x) ∙ any_from (eq_by_cmp R x) xs x a (ap is_eq (tied_itself o x))) in
      subst (Among ws) (sym (exact x r.0 (eq_true _ r.2))) r.1

  pub Among-set_of : (ws : List X) (x : X) → Among (set_of R ws) x → Among ws x
  Among-set_of ws = moved (set_of R ws) ws (λ q. list_any-set_of o exact (eq_by_cmp R q) ws)

  pub set_of-Among : (ws : List X) (x : X) → Among ws x → Among (set_of R ws) x
  set_of-Among ws = moved ws (set_of R ws) (λ q. sym (list_any-set_of o exact (eq_by_cmp R q) ws))

  dedup_apart : (x : X) (xs : List X) → IsDistinct (eq_by_cmp R) (x ∷ xs) → dedup_from (eq_by_cmp R) x xs ≡ x ∷ xs
  unfolding IsDistinct
  dedup_apart x [] d = refl
  dedup_apart x (y ∷ ys) d =
      let apart : eq_by_cmp R y x ≡ false = (eq_by_cmp_equiv o).symm y x ∙ d.0.0 in
      rw apart (ap (λ l. x ∷ l) (dedup_apart y ys d.1))

  dedup_distinct : (xs : List X) → IsDistinct (eq_by_cmp R) xs → dedup (eq_by_cmp R) xs ≡ xs
  dedup_distinct [] d = refl
  dedup_distinct (x ∷ xs) d = dedup_apart x xs d

  -- what a sort makes of distinct elements is their set
  pub sort_is : (ws xs : List X) → IsPermutation ws xs → IsSorted R xs → IsDistinct (eq_by_cmp R) ws → xs ≡ set_of R ws
  sort_is ws xs permuted sorted apart =
      let apart' : IsDistinct (eq_by_cmp R) xs = IsDistinct-IsPermutation (eq_by_cmp R) (eq_by_cmp_equiv o).symm ws xs permuted apart in
      let is : dedup (eq_by_cmp R) xs ≡ xs = dedup_distinct xs apart' in
      let strict : IsStrictlySortedBy R (dedup (eq_by_cmp R) xs) = IsStrictlySortedBy-dedup o (λ _ _. refl) xs sorted in
      same_sorted o exact xs (set_of R ws) (subst (IsStrictlySortedBy R) is strict) (IsStrictlySortedBy-set_of o exact ws)
      (λ q. sym (list_any-IsPermutation (eq_by_cmp R q) ws xs permuted) ∙ sym (list_any-set_of o exact (eq_by_cmp R q) ws))

-- from the clause `sorted` of `sort_by`, where each call compares by R
pub sorted_by : {X : Type 0} {R : X → X → Ordering} (o : IsTotalOrder R) {F : Type 0} {g : Mut F (Bor X × (Bor X × Unit {0})) Ordering} {f : F} (xs : List X)
    → ((lt : X → X → Bool) → IsStrictWeakOrder lt → ComparesAs g lt f → IsSortedBy lt xs)
    → ((a : Bor X × (Bor X × Unit {0})) (r : Ordering) (f' : F) → Called g f a r f' → (r ≡ R a.0.now a.1.0.now) × (f' ≡ f)) → IsSorted R xs
sorted_by {R = R} o {g = g} {f = f} xs up h =
    up (λ x y. is_lt (R x y)) (ranks_by o (λ x. x))
    (always_returns_same g (λ a r. is_lt r ≡ is_lt (R a.0.now a.1.0.now)) f (λ a r f' k. (ap is_lt (h a r f' k).0, (h a r f' k).1)))
