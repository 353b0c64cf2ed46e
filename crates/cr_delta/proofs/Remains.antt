-- A loop that adds what a function gives of each element, by what is left to add.
use Rattle.std.proofs.Common.{◌≡◌, ℕ, suc, ◌+◌, ◌<◌, length, get_or, drop, drop-cons, add-one, Bool, true, false, ◌||◌, List, [], ◌∷◌, ◌++◌, Some, refl, sym, ap, ◌∙◌, append_assoc}
use Rattle.std.specs.Prelude.{find}
use Rattle.std.specs.List.{flat_map}
use Rattle.std.proofs.lemmas.List.{append-nil}
use Rattle.std.proofs.lemmas.List.Folds.{list_any-append}
use Rattle.cr_lattice.specs.declared.change.Change.{Change}
use Rattle.cr_delta.specs.Delta.{is_past_limit, passes_limit}
use Rattle.cr_delta.proofs.Among.{or_left}

pub find_first : {A : Type 0} (p : A → Bool) (xs : List A) (a : A) (rest : List A) → xs ≡ a ∷ rest → p a ≡ true → find p xs ≡ Some a
find_first p xs a rest is e = ap (find p) is ∙ rw e refl

pub find_rest : {A : Type 0} (p : A → Bool) (xs : List A) (a : A) (rest : List A) → xs ≡ a ∷ rest → p a ≡ false → find p xs ≡ find p rest
find_rest p xs a rest is e = ap (find p) is ∙ rw e refl

pub passes-append : (xs ys : List Change) → passes_limit (xs ++ ys) ≡ (passes_limit xs || passes_limit ys)
unfolding passes_limit
passes-append xs ys = list_any-append (λ c. is_past_limit c.cl || is_past_limit c.col_version) xs ys

pub passes-nil : passes_limit [] ≡ false
unfolding passes_limit
passes-nil = refl

module _ {A : Type 0} (f : A → List Change) where
  -- what is added and what is left to add are all that is to be added
  pub added_step : (out total : List Change) (xs ys : List A) (a : A) → xs ≡ a ∷ ys → out ++ flat_map f xs ≡ total → (out ++ f a) ++ flat_map f ys ≡ total
  added_step out total xs ys a is e = append_assoc out (f a) (flat_map f ys) ∙ ap (λ zs. out ++ flat_map f zs) (sym is) ∙ e

  pub added_all : (out total : List Change) (xs : List A) → xs ≡ [] → out ++ flat_map f xs ≡ total → out ≡ total
  added_all out total xs is e = sym (append-nil out) ∙ ap (λ zs. out ++ flat_map f zs) (sym is) ∙ e

  -- the same, where nothing so far passes a limit
  pub record Remains (out : List Change) (xs : List A) (old : List Change) (all : List A) : Type 0 where
    pub shown : out ++ flat_map f xs ≡ old ++ flat_map f all
    pub within : passes_limit (flat_map f xs) ≡ passes_limit (flat_map f all)

  pub remains_all : (old : List Change) (all : List A) → Remains old all old all
  remains_all old all = record { shown = refl; within = refl }

  pub remains_step : (out out' old : List Change) (xs ys all : List A) (a : A) → xs ≡ a ∷ ys → out' ≡ out ++ f a → passes_limit (f a) ≡ false → Remains out xs old all → Remains out' ys old all
  remains_step out out' old xs ys all a is added within r = record {
    shown = ap (λ zs. zs ++ flat_map f ys) added ∙ added_step out (old ++ flat_map f all) xs ys a is r.shown;
    within = sym (ap (λ zs. passes_limit (flat_map f zs)) is ∙ passes-append (f a) (flat_map f ys) ∙ rw within refl) ∙ r.within;
  }

  pub remains_stop : (out old : List Change) (xs ys all : List A) (a : A) → xs ≡ a ∷ ys → passes_limit (f a) ≡ true → Remains out xs old all → passes_limit (flat_map f all) ≡ true
  remains_stop out old xs ys all a is passes r = sym r.within ∙ ap (λ zs. passes_limit (flat_map f zs)) is ∙ passes-append (f a) (flat_map f ys) ∙ or_left _ _ passes

  pub remains_none : (out old : List Change) (xs all : List A) → xs ≡ [] → Remains out xs old all → (out ≡ old ++ flat_map f all) × (passes_limit (flat_map f all) ≡ false)
  remains_none out old xs all is r = (added_all out (old ++ flat_map f all) xs is r.shown, sym r.within ∙ ap (λ zs. passes_limit (flat_map f zs)) is ∙ passes-nil)

-- the next element of a list that is gone over by index
pub next_of : {A : Type 0} (xs : List A) (i : ℕ) (x : A) → i < length xs → x ≡ get_or xs i x → drop i xs ≡ x ∷ drop (i + 1) xs
next_of xs i x lt at = drop-cons xs i x lt ∙ ap (λ y. y ∷ drop (suc i) xs) (sym at) ∙ rw add-one refl
