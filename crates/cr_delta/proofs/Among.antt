-- Members of lists of any type, and of lists of changes.
use Rattle.std.proofs.Common.{◌≡◌, ◌⊎◌, inl, inr, Bool, true, false, ◌&&◌, ◌||◌, List, [], ◌∷◌, ◌++◌, map, refl, sym, ap, ◌∙◌}
use Rattle.std.specs.Prelude.{filter}
use Rattle.std.specs.List.{list_any, flat_map, AllByRecursion}
use Rattle.cr_lattice.specs.declared.change.Change.{Change}
use Rattle.cr_lattice.specs.Change.{change_cmp}
use Rattle.cr_lattice.specs.ChangeOrder.{change_total, change_exact}
use Rattle.cr_lattice.specs.Keep.{has}
use Rattle.cr_lattice.specs.Sets.{set_of}
use Rattle.cr_lattice.proofs.SortedSets.{list_any-set_of}
use Rattle.cr_lattice.proofs.KeepLaws.{In, In-head, In-tail, In-cons, not_In-nil}

pub split : (b : Bool) → (b ≡ true) ⊎ (b ≡ false)
split true = inl refl
split false = inr refl

pub and_true : (a b : Bool) → (a && b) ≡ true → (a ≡ true) × (b ≡ true)
and_true true b e = (refl, e)
and_true false b e = absurd cc

pub or_true : (a b : Bool) → (a || b) ≡ true → (a ≡ true) ⊎ (b ≡ true)
or_true true b e = inl refl
or_true false b e = inr e

pub or_left : (a b : Bool) → a ≡ true → (a || b) ≡ true
or_left true b e = refl
or_left false b e = absurd cc

pub or_right : (a b : Bool) → b ≡ true → (a || b) ≡ true
or_right true b e = refl
or_right false b e = e

-- a is a member of the list
abbrev pub Among : {A : Type 0} → List A → A → Type 0
Among [] a = ⊥
Among (x ∷ xs) a = (a ≡ x) ⊎ Among xs a

pub Among-map : {A B : Type 0} (f : A → B) (xs : List A) (b : B) → Among (map f xs) b → (a : A) × Among xs a × (b ≡ f a)
Among-map f [] b m = absurd m
Among-map f (x ∷ xs) b m =
    elim m [
      | inl here ↦ (x, inl refl, here)
      | inr there ↦ (let r = Among-map f xs b there in (r.0, inr r.1, r.2))
    ]

pub map_member : {A B : Type 0} (f : A → B) (xs : List A) (a : A) → Among xs a → Among (map f xs) (f a)
map_member f [] a m = absurd m
map_member f (x ∷ xs) a m = elim m [ inl here ↦ inl (ap f here) | inr there ↦ inr (map_member f xs a there) ]

pub Among-filter : {A : Type 0} (p : A → Bool) (xs : List A) (a : A) → Among (filter p xs) a → Among xs a × (p a ≡ true)
Among-filter p [] a m = absurd m
Among-filter p (x ∷ xs) a m =
    elim (split (p x)) [
      | inl so ↦ (
          let m' : Among (x ∷ filter p xs) a = rw so at m in
          elim m' [
            | inl here ↦ (inl here, ap p here ∙ so)
            | inr there ↦ (let r = Among-filter p xs a there in (inr r.0, r.1))
          ])
      | inr not_so ↦ (
          let m' : Among (filter p xs) a = rw not_so at m in
          let r = Among-filter p xs a m' in (inr r.0, r.1))
    ]

pub filter_member : {A : Type 0} (p : A → Bool) (xs : List A) (a : A) → Among xs a → p a ≡ true → Among (filter p xs) a
filter_member p [] a m e = absurd m
filter_member p (x ∷ xs) a m e =
    elim m [
      | inl here ↦ (let so : p x ≡ true = ap p (sym here) ∙ e in rw so (inl here))
      | inr there ↦ elim (split (p x)) [ inl so ↦ rw so (inr (filter_member p xs a there e)) | inr not_so ↦ rw not_so (filter_member p xs a there e) ]
    ]

pub Among-append : {A : Type 0} (xs ys : List A) (a : A) → Among (xs ++ ys) a → Among xs a ⊎ Among ys a
Among-append [] ys a m = inr m
Among-append (x ∷ xs) ys a m =
    elim m [
      | inl here ↦ inl (inl here)
      | inr there ↦ elim (Among-append xs ys a there) [ inl l ↦ inl (inr l) | inr r ↦ inr r ]
    ]

pub append_left : {A : Type 0} (xs ys : List A) (a : A) → Among xs a → Among (xs ++ ys) a
append_left [] ys a m = absurd m
append_left (x ∷ xs) ys a m = elim m [ inl here ↦ inl here | inr there ↦ inr (append_left xs ys a there) ]

pub append_right : {A : Type 0} (xs ys : List A) (a : A) → Among ys a → Among (xs ++ ys) a
append_right [] ys a m = m
append_right (x ∷ xs) ys a m = inr (append_right xs ys a m)

pub Among-flat_map : {A B : Type 0} (f : A → List B) (xs : List A) (b : B) → Among (flat_map f xs) b → (a : A) × Among xs a × Among (f a) b
Among-flat_map f [] b m = absurd m
Among-flat_map f (x ∷ xs) b m =
    elim (Among-append (f x) (flat_map f xs) b m) [
      | inl here ↦ (x, inl refl, here)
      | inr there ↦ (let r = Among-flat_map f xs b there in (r.0, inr r.1, r.2))
    ]

pub flat_map_member : {A B : Type 0} (f : A → List B) (xs : List A) (a : A) (b : B) → Among xs a → Among (f a) b → Among (flat_map f xs) b
flat_map_member f [] a b m n = absurd m
flat_map_member f (x ∷ xs) a b m n =
    elim m [
      | inl here ↦ append_left (f x) (flat_map f xs) b (rw here at n)
      | inr there ↦ append_right (f x) (flat_map f xs) b (flat_map_member f xs a b there n)
    ]

-- what holds of each member holds of this one
pub member_has : {A : Type 0} (P : A → Type 0) (xs : List A) (a : A) → AllByRecursion P xs → Among xs a → P a
member_has P [] a all m = absurd m
member_has P (x ∷ xs) a all m = elim m [ inl here ↦ rw here all.0 | inr there ↦ member_has P xs a all.1 there ]

pub any_member : {A : Type 0} (p : A → Bool) (xs : List A) (a : A) → Among xs a → p a ≡ true → list_any p xs ≡ true
any_member p [] a m e = absurd m
any_member p (x ∷ xs) a m e = elim m [ inl here ↦ or_left _ _ (ap p (sym here) ∙ e) | inr there ↦ or_right _ _ (any_member p xs a there e) ]

pub member_of_any : {A : Type 0} (p : A → Bool) (xs : List A) → list_any p xs ≡ true → (a : A) × Among xs a × (p a ≡ true)
member_of_any p [] e = absurd cc
member_of_any p (x ∷ xs) e =
    elim (or_true (p x) (list_any p xs) e) [
      | inl here ↦ (x, inl refl, here)
      | inr there ↦ (let r = member_of_any p xs there in (r.0, inr r.1, r.2))
    ]

-- ---- changes

pub In_Among : (cs : List Change) (c : Change) → Among cs c → In cs c
In_Among [] c m = absurd m
In_Among (x ∷ xs) c m = elim m [ inl here ↦ rw here (In-head x xs) | inr there ↦ In-tail x xs c (In_Among xs c there) ]

pub Among_In : (cs : List Change) (c : Change) → In cs c → Among cs c
Among_In [] c e = absurd (not_In-nil c e)
Among_In (x ∷ xs) c e = elim (In-cons x xs c e) [ inl here ↦ inl here | inr there ↦ inr (Among_In xs c there) ]

pub in_set : (cs : List Change) (c : Change) → Among cs c → In (set_of change_cmp cs) c
unfolding has
in_set cs c m = list_any-set_of change_total change_exact _ cs ∙ In_Among cs c m

pub of_set : (cs : List Change) (c : Change) → In (set_of change_cmp cs) c → Among cs c
unfolding has
of_set cs c e = Among_In cs c (sym (list_any-set_of change_total change_exact _ cs) ∙ e)
