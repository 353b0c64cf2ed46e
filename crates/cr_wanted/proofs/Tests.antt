-- Tests of the members of a list, one after another.
use Rattle.std.proofs.Common.{◌≡◌, ◌∙◌, ℕ, ◌+◌, ◌<◌, ◌≤◌, Bool, true, false, ◌||◌, List, length, get_or, drop, sym, ap}
use Rattle.std.specs.List.{list_any}
use Rattle.std.proofs.lemmas.List.{drop_more, drop_all}

module _ {X : Type 0} (p : X → Bool) (xs : List X) (i : ℕ) where
  cut : (x : X) → i < length xs → x ≡ get_or xs i x → list_any p (drop i xs) ≡ (p x || list_any p (drop (i + 1) xs))
  cut x h is = ap (list_any p) (drop_more xs i x h) ∙ ap (λ y. p y || list_any p (drop (i + 1) xs)) (sym is)

  -- one that passes
  pub any_here : (x : X) (b whole : Bool) → i < length xs → x ≡ get_or xs i x → b ≡ p x → b ≡ true → list_any p (drop i xs) ≡ whole → true ≡ whole
  any_here x b whole h is same t w = sym (cut x h is ∙ ap (λ c. c || list_any p (drop (i + 1) xs)) (sym same ∙ t)) ∙ w

  -- one that doesn't
  pub any_later : (x : X) (b whole : Bool) → i < length xs → x ≡ get_or xs i x → b ≡ p x → b ≡ false → list_any p (drop i xs) ≡ whole → list_any p (drop (i + 1) xs) ≡ whole
  any_later x b whole h is same t w = sym (cut x h is ∙ ap (λ c. c || list_any p (drop (i + 1) xs)) (sym same ∙ t)) ∙ w

  pub any_over : (whole : Bool) → length xs ≤ i → list_any p (drop i xs) ≡ whole → false ≡ whole
  any_over whole h w = sym (ap (list_any p) (drop_all i xs h)) ∙ w
