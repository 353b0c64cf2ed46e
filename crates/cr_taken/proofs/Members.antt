-- What holds of each member of a list, of those that are found, and of a set's members.
use Rattle.std.proofs.Common.{◌≡◌, inl, inr, Bool, true, List, [], ◌∷◌, ◌++◌, map, Some, refl, sym, Ordering, Less, Equal, Greater}
use Rattle.std.specs.Prelude.{filter, find}
use Rattle.std.specs.List.{AllByRecursion}
use Rattle.std.specs.BTreeSet.{insert_key}
use Rattle.std.specs.Ordering.{match_ordering}
use Rattle.cr_lattice.specs.Sets.{set_of}
use Rattle.cr_lattice.proofs.Tested.{split}
use Rattle.cr_delta.proofs.Among.{Among}

pub all_by : {A : Type 0} (P Q : A → Type 0) (xs : List A) → ((x : A) → P x → Q x) → AllByRecursion P xs → AllByRecursion Q xs
all_by P Q [] f all = tt
all_by P Q (x ∷ xs) f all = (f x all.0, all_by P Q xs f all.1)

pub all_both : {A : Type 0} (P Q R : A → Type 0) (xs : List A) → ((x : A) → P x → Q x → R x) → AllByRecursion P xs → AllByRecursion Q xs → AllByRecursion R xs
all_both P Q R [] f all more = tt
all_both P Q R (x ∷ xs) f all more = (f x all.0 more.0, all_both P Q R xs f all.1 more.1)

pub all_members : {A : Type 0} (P : A → Type 0) (xs : List A) → ((x : A) → Among xs x → P x) → AllByRecursion P xs
all_members P [] f = tt
all_members P (x ∷ xs) f = (f x (inl refl), all_members P xs (λ y m. f y (inr m)))

pub all_map : {A B : Type 0} (P : A → Type 0) (Q : B → Type 0) (f : A → B) (xs : List A) → ((x : A) → P x → Q (f x)) → AllByRecursion P xs → AllByRecursion Q (map f xs)
all_map P Q f [] g all = tt
all_map P Q f (x ∷ xs) g all = (g x all.0, all_map P Q f xs g all.1)

pub all_append : {A : Type 0} (P : A → Type 0) (xs ys : List A) → AllByRecursion P xs → AllByRecursion P ys → AllByRecursion P (xs ++ ys)
all_append P [] ys a b = b
all_append P (x ∷ xs) ys a b = (a.0, all_append P xs ys a.1 b)

pub all_filter : {A : Type 0} (p : A → Bool) (P Q : A → Type 0) (xs : List A) → ((x : A) → P x → p x ≡ true → Q x) → AllByRecursion P xs → AllByRecursion Q (filter p xs)
all_filter p P Q [] f all = tt
all_filter p P Q (x ∷ xs) f all =
    elim (split (p x)) [
      | inl so ↦ rw so (f x all.0 so, all_filter p P Q xs f all.1)
      | inr not_so ↦ rw not_so (all_filter p P Q xs f all.1)
    ]

pub none_asked : {X : Type 0} (xs : List X) → AllByRecursion (λ x. Unit {0}) xs
none_asked [] = tt
none_asked (x ∷ xs) = (tt, none_asked xs)

-- ---- sets

module _ {K : Type 0} (R : K → K → Ordering) (P : K → Type 0) where
  all_insert : (xs : List K) (k : K) → P k → AllByRecursion P xs → AllByRecursion P (insert_key R xs k)
  all_insert [] k h all = (h, tt)
  all_insert (x ∷ xs) k h all =
      elim (R k x) as (λ o. AllByRecursion P (match_ordering o (k ∷ x ∷ xs) (x ∷ xs) (x ∷ insert_key R xs k))) [
        | Less ↦ (h, all)
        | Equal ↦ all
        | Greater ↦ (all.0, all_insert xs k h all.1)
      ]

  pub all_set : (xs : List K) → AllByRecursion P xs → AllByRecursion P (set_of R xs)
  all_set [] all = tt
  all_set (x ∷ xs) all = all_insert (set_of R xs) x all.0 (all_set xs all.1)

-- ---- what is found

pub some_is : {A : Type 0} (a b : A) → Some a ≡ Some b → a ≡ b
some_is a b e = cc

pub found_member : {A : Type 0} (p : A → Bool) (xs : List A) (a : A) → find p xs ≡ Some a → Among xs a
found_member p [] a e = absurd cc
found_member p (x ∷ xs) a e =
    elim (split (p x)) [
      | inl so ↦ inl (sym (some_is x a (rw so at e)))
      | inr not_so ↦ inr (found_member p xs a (rw not_so at e))
    ]
