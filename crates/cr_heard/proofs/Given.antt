-- What is given of the items of a list, and of keys in order.
use Rattle.std.proofs.Common.{◌≡◌, inl, inr, ℕ, Bool, true, false, ◌&&◌, List, [], ◌∷◌, ◌++◌, map, Option, Some, None, is_some, refl, sym, ap, ◌∙◌}
use Rattle.std.specs.Prelude.{filter}
use Rattle.std.specs.List.{list_any, filter_map, flat_map, cons_option, AllByRecursion}
use Rattle.std.specs.List.Sorted.{IsStrictlySortedBy}
use Rattle.std.proofs.lemmas.List.Kept.{IsStrictlySortedBy-filter}
use Rattle.cr_value.specs.Order.{bytes_cmp}
use Rattle.cr_value.specs.OrderLaws.{bytes_total, bytes_exact}
use Rattle.cr_lattice.specs.Check.{same_bytes}
use Rattle.cr_lattice.proofs.SortedSets.{has-filter, same_sorted}
use Rattle.cr_delta.proofs.Among.{Among}

-- ---- items

pub some_is : {A : Type 0} (a b : A) → Some a ≡ Some b → a ≡ b
some_is a b e = cc

pub all_of : {A : Type 0} (P : A → Type 0) (xs : List A) → ((x : A) → Among xs x → P x) → AllByRecursion P xs
all_of P [] f = tt
all_of P (x ∷ xs) f = (f x (inl refl), all_of P xs (λ y m. f y (inr m)))

pub given_alike : {A B : Type 0} (f g : A → Option B) (xs : List A) → ((x : A) → Among xs x → f x ≡ g x) → filter_map f xs ≡ filter_map g xs
given_alike f g [] h = refl
given_alike f g (x ∷ xs) h = (λ i. cons_option (h x (inl refl) i) (given_alike f g xs (λ y m. h y (inr m)) i))

pub none_given : {A B : Type 0} (f : A → Option B) (xs : List A) → ((x : A) → f x ≡ None) → filter_map f xs ≡ []
none_given f [] h = refl
none_given f (x ∷ xs) h = rw (h x) (none_given f xs h)

pub given_behind : {A B C : Type 0} (f : B → Option C) (g : A → B) (xs : List A) → filter_map f (map g xs) ≡ filter_map (λ x. f (g x)) xs
given_behind f g [] = refl
given_behind f g (x ∷ xs) = ap (cons_option (f (g x))) (given_behind f g xs)

-- what is given is given of one of the items
pub among_given : {A B : Type 0} (f : A → Option B) (xs : List A) (b : B) → Among (filter_map f xs) b → (a : A) × Among xs a × (f a ≡ Some b)
among_given {A} {B} f [] b m = absurd m
among_given {A} {B} f (x ∷ xs) b m = by (f x) refl m (among_given f xs b) where
  by : (o : Option B) → f x ≡ o → Among (cons_option o (filter_map f xs)) b → (Among (filter_map f xs) b → (a : A) × Among xs a × (f a ≡ Some b)) → (a : A) × Among (x ∷ xs) a × (f a ≡ Some b)
  by None e m rest = let r = rest m in (r.0, inr r.1, r.2)
  by (Some y) e m rest = elim m [ inl here ↦ (x, inl refl, e ∙ ap Some (sym here)) | inr there ↦ (let r = rest there in (r.0, inr r.1, r.2)) ]

-- items of which nothing is given may be left out
skipped : {A B : Type 0} (f : A → Option B) (xs : List A) → filter_map f xs ≡ filter_map f (filter (λ x. is_some (f x)) xs)
skipped f [] = refl
skipped {A} {B} f (x ∷ xs) = by (f x) refl (skipped f xs) where
  by : (o : Option B) → f x ≡ o → filter_map f xs ≡ filter_map f (filter (λ y. is_some (f y)) xs) → filter_map f (x ∷ xs) ≡ filter_map f (filter (λ y. is_some (f y)) (x ∷ xs))
  by None e rest = rw e rest
  by (Some y) e rest = rw e (rw e (ap (λ ys. y ∷ ys) rest))

-- where what each item gives is a list of one of the two kinds
pub made_alike : {A B C : Type 0} (f : A → Option B) (g : B → List C) (h : A → List C) (xs : List A)
    → ((x : A) → Among xs x → flat_map g (cons_option (f x) []) ≡ h x) → flat_map g (filter_map f xs) ≡ flat_map h xs
made_alike f g h [] each = refl
made_alike {A} {B} {C} f g h (x ∷ xs) each = by (f x) (each x (inl refl)) (made_alike f g h xs (λ y m. each y (inr m))) where
  append_none : (cs : List C) → cs ++ [] ≡ cs
  append_none [] = refl
  append_none (c ∷ cs) = ap (λ l. c ∷ l) (append_none cs)

  by : (o : Option B) → flat_map g (cons_option o []) ≡ h x → flat_map g (filter_map f xs) ≡ flat_map h xs → flat_map g (cons_option o (filter_map f xs)) ≡ h x ++ flat_map h xs
  by None one rest = rest ∙ ap (λ l. l ++ flat_map h xs) one
  by (Some y) one rest = ap (λ l. g y ++ l) rest ∙ ap (λ l. l ++ flat_map h xs) (sym (append_none (g y)) ∙ one)

-- ---- keys in order

-- what is given of keys in order is given of any other keys in order, if nothing is given but of keys that are among both
module _ {B : Type 0} (f : List ℕ → Option B) (ks ls : List (List ℕ)) (s : IsStrictlySortedBy bytes_cmp ks) (t : IsStrictlySortedBy bytes_cmp ls)
    (first : (k : List ℕ) → list_any (same_bytes k) ks ≡ false → f k ≡ None) (second : (k : List ℕ) → list_any (same_bytes k) ls ≡ false → f k ≡ None) where
  both_ways : (a b p : Bool) → (a ≡ false → p ≡ false) → (b ≡ false → p ≡ false) → (a && p) ≡ (b && p)
  both_ways true true p f g = refl
  both_ways true false p f g = g refl
  both_ways false true p f g = sym (f refl)
  both_ways false false p f g = refl

  same_givers : filter (λ k. is_some (f k)) ks ≡ filter (λ k. is_some (f k)) ls
  same_givers =
      same_sorted bytes_total bytes_exact (filter (λ k. is_some (f k)) ks) (filter (λ k. is_some (f k)) ls)
      (IsStrictlySortedBy-filter bytes_cmp (λ k. is_some (f k)) ks s) (IsStrictlySortedBy-filter bytes_cmp (λ k. is_some (f k)) ls t)
      (λ q.
      has-filter bytes_total bytes_exact (λ k. is_some (f k)) ks q
      ∙ both_ways (list_any (same_bytes q) ks) (list_any (same_bytes q) ls) (is_some (f q)) (λ absent. ap is_some (first q absent)) (λ absent. ap is_some (second q absent))
      ∙ sym (has-filter bytes_total bytes_exact (λ k. is_some (f k)) ls q))

  pub given_over : filter_map f ks ≡ filter_map f ls
  given_over = skipped f ks ∙ ap (filter_map f) same_givers ∙ sym (skipped f ls)
