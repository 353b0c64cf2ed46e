-- From the ends of a text that the rest of a pattern matches to those that the pattern with one more character matches.
use Rattle.std.proofs.Common.{◌≡◌, ℕ, zero, suc, ◌+◌, ◌-◌, ◌<◌, ◌≤◌, ◌==◌, Bool, true, false, cond, ◌&&◌, ◌||◌, List, [], ◌∷◌, ◌++◌, length, get_or, drop, sym, ap, subst, ◌∙◌, arith}
use Rattle.std.proofs.Math.ListN.{drop_of_length-le}
use Rattle.std.proofs.lemmas.Bool.{cases_lt}
use Rattle.std.proofs.lemmas.List.{drop_more, get_or_push, get_or_append_left, length_push}
use mathlib.Core.Logic.{◌⊎◌, inl, inr}
use Rattle.cr_scalar.specs.Texts.{fits, some_end, first_and_rest, matches}
use Rattle.cr_scalar.specs.Like.{MatchesEnds}

no_run : (p : ℕ) (ps text : List ℕ) → (p == 37) ≡ false → matches (p ∷ ps) text ≡ first_and_rest (fits p) (matches ps) text
no_run p ps text e = ap (λ b. cond b (some_end (matches ps) text) (first_and_rest (fits p) (matches ps) text)) e

a_run : (p : ℕ) (ps text : List ℕ) → (p == 37) ≡ true → matches (p ∷ ps) text ≡ some_end (matches ps) text
a_run p ps text e = ap (λ b. cond b (some_end (matches ps) text) (first_and_rest (fits p) (matches ps) text)) e

module _ (p : ℕ) (ps text : List ℕ) (old new : List Bool) (before : MatchesEnds ps text old) (len : length new ≡ length old) where
  module _ (other : (p == 37) ≡ false) (each : (k : ℕ) → k < length text → get_or new k false ≡ (fits p (get_or text k 0) && get_or old (k + 1) false)) (last : get_or new (length text) false ≡ false) where
    one_at : (k : ℕ) → k ≤ length text → (k < length text) ⊎ (length text ≤ k) → get_or new k false ≡ first_and_rest (fits p) (matches ps) (drop k text)
    one_at k h (inl l) =
        each k l ∙ ap (λ b. fits p (get_or text k 0) && b) (before.each (k + 1) (omega arith)) ∙ ap (first_and_rest (fits p) (matches ps)) (sym (drop_more text k 0 l))
    one_at k h (inr l) =
        let e : k ≡ length text = omega arith in
        ap (λ i. get_or new i false) e ∙ last ∙ ap (first_and_rest (fits p) (matches ps)) (sym (drop_of_length-le text l))

    pub one_more : MatchesEnds (p ∷ ps) text new
    one_more = record {
      len = len ∙ before.len;
      each = λ k h. one_at k h (cases_lt k (length text)) ∙ sym (no_run p ps (drop k text) other);
    }

  module _ (run : (p == 37) ≡ true) (each : (k : ℕ) → k + 1 < length old → get_or new k false ≡ (get_or old k false || get_or new (k + 1) false)) (last : (k : ℕ) → k + 1 ≡ length old → get_or new k false ≡ get_or old k false) where
    any_at : (d k : ℕ) → k + d ≡ length text → get_or new k false ≡ some_end (matches ps) (drop k text)
    any_at zero k e =
        let size = before.len in
        let end : k + 1 ≡ length old = omega arith in
        let gone : drop k text ≡ [] = drop_of_length-le text (omega arith) in
        last k end ∙ before.each k (omega arith) ∙ ap (matches ps) gone ∙ ap (some_end (matches ps)) (sym gone)
    any_at (suc d) k e =
        let size = before.len in
        let within : k + 1 < length old = omega arith in
        let l : k < length text = omega arith in
        let next = drop_more text k 0 l in
        each k within
        ∙ ap (λ b. b || get_or new (k + 1) false) (before.each k (omega arith) ∙ ap (matches ps) next)
        ∙ ap (λ b. matches ps (get_or text k 0 ∷ drop (k + 1) text) || b) (any_at d (k + 1) (omega arith))
        ∙ ap (some_end (matches ps)) (sym next)

    left : (k : ℕ) → k ≤ length text → (d : ℕ) × (k + d ≡ length text)
    left k h = (length text - k, omega arith)

    pub any_more : MatchesEnds (p ∷ ps) text new
    any_more = record {
      len = len ∙ before.len;
      each = λ k h. any_at (left k h).0 k (left k h).1 ∙ sym (a_run p ps (drop k text) run);
    }

-- the pattern from one place further to the front
pub next_front : (pattern text : List ℕ) (ends : List Bool) (i j at w d : ℕ) → i + 1 ≡ j → i < length pattern → at ≡ i → w ≡ get_or pattern at d → MatchesEnds (w ∷ drop j pattern) text ends → MatchesEnds (drop i pattern) text ends
next_front pattern text ends i j at w d e l same is h =
    subst (λ ps. MatchesEnds ps text ends) (ap (λ v. v ∷ drop j pattern) (is ∙ ap (λ n. get_or pattern n d) same) ∙ ap (λ n. get_or pattern i d ∷ drop n pattern) (sym e) ∙ sym (drop_more pattern i d l)) h

-- the empty pattern matches the empty text alone
is_end : (k : ℕ) (text : List ℕ) → k < length text → matches [] (drop k text) ≡ false
is_end k text l = ap (matches []) (drop_more text k 0 l)

empty_at : (text : List ℕ) (marks : List Bool) → length marks ≡ length text → ((k : ℕ) → get_or marks k false ≡ false) → (k : ℕ) → k ≤ length text → (k < length text) ⊎ (length text ≤ k) → get_or (marks ++ true ∷ []) k false ≡ matches [] (drop k text)
empty_at text marks e none k h (inl l) = get_or_append_left marks (true ∷ []) false k (omega arith) ∙ none k ∙ sym (is_end k text l)
empty_at text marks e none k h (inr l) = get_or_push marks true false k (omega arith) ∙ ap (matches []) (sym (drop_of_length-le text l))

pub empty_pattern : (text : List ℕ) (marks : List Bool) → length marks ≡ length text → ((k : ℕ) → get_or marks k false ≡ false) → MatchesEnds [] text (marks ++ true ∷ [])
empty_pattern text marks e none = record {
  len = length_push marks true ∙ ap (λ n. n + 1) e;
  each = λ k h. empty_at text marks e none k h (cases_lt k (length text));
}
