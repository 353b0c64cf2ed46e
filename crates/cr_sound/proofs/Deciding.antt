-- Answers that decide, and what neighbours in a list tell of all of it.
use Rattle.std.proofs.Common.{◌≡◌, ℕ, zero, suc, ◌+◌, ◌<◌, ℤ, ◌≤ℤ◌, Bool, true, false, T, List, [], ◌∷◌, length, get_or, Ordering, Less, Equal, Greater, refl, sym, ap, ◌∙◌, subst, arith}
use Rattle.std.specs.Prelude.{Decides, int_le}
use Rattle.std.specs.Bool.{passes}
use Rattle.std.specs.List.{list_all, AllByRecursion, IsAllAdjacentAnswer}
use Rattle.std.specs.List.Sorted.{IsStrictlySortedBy}
use Rattle.std.specs.Ordering.{is_lt}
use Rattle.std.specs.Cmp.{IsTotalOrder}
use Rattle.std.proofs.lemmas.Bool.Decides.{Decides-and}
use Rattle.std.proofs.lemmas.Map.Keys.{Less-from_sorted, sorted_from_all_adjacent}

pub less_true : (o : Ordering) → is_lt o ≡ true → o ≡ Less
less_true Less e = refl
less_true Equal e = absurd cc
less_true Greater e = absurd cc

-- ---- answers

true_from : (b : Bool) → T b → b ≡ true
true_from true t = refl
true_from false t = absurd t

pub int_le_decides : (a b : ℤ) → Decides (int_le a b) (a ≤ℤ b)
int_le_decides a b = ((λ e. record { le = passes (int_le a b) e }), λ l. true_from (int_le a b) l.le)

-- each element passes a test that decides P
pub all_decide : {X : Type 0} (test : X → Bool) (P : X → Type 0) → ((x : X) → Decides (test x) (P x)) → (xs : List X) → Decides (list_all test xs) (AllByRecursion P xs)
all_decide test P h [] = ((λ e. tt), λ all. refl)
all_decide test P h (x ∷ xs) = Decides-and (test x) (list_all test xs) (h x) (all_decide test P h xs)

-- ---- neighbours

module _ {X : Type 0} (R : X → X → Bool) where
  -- each element stands by R to every later one
  abbrev pub InTurn : List X → Type 0
  InTurn [] = Unit {0}
  InTurn (x ∷ xs) = AllByRecursion (λ y. R x y ≡ true) xs × InTurn xs

  neighbours_in_turn : (xs : List X) (k : ℕ) (d : X) → InTurn xs → k + 1 < length xs → R (get_or xs k d) (get_or xs (k + 1) d) ≡ true
  neighbours_in_turn [] k d t l = let no : ⊥ = omega arith in absurd no
  neighbours_in_turn (x ∷ []) k d t l = let no : ⊥ = omega arith in absurd no
  neighbours_in_turn (x ∷ y ∷ ys) zero d t l = t.0.0
  neighbours_in_turn (x ∷ y ∷ ys) (suc k) d t l =
      subst (λ n. R (get_or (y ∷ ys) k d) (get_or (x ∷ y ∷ ys) n d) ≡ true) {x = suc (k + 1)} {y = suc k + 1} (omega arith) (neighbours_in_turn (y ∷ ys) k d t.1 (omega arith))

  module _ (through : (x y z : X) → R x y ≡ true → R y z ≡ true → R x z ≡ true) where
    past : (x y : X) (zs : List X) → R x y ≡ true → AllByRecursion (λ z. R y z ≡ true) zs → AllByRecursion (λ z. R x z ≡ true) zs
    past x y [] e all = tt
    past x y (z ∷ zs) e all = (through x y z e all.0, past x y zs e all.1)

    turns_from_neighbours : (xs : List X) (d : X) → ((k : ℕ) → k + 1 < length xs → R (get_or xs k d) (get_or xs (k + 1) d) ≡ true) → InTurn xs
    turns_from_neighbours [] d h = tt
    turns_from_neighbours (x ∷ []) d h = (tt, tt)
    turns_from_neighbours (x ∷ y ∷ ys) d h =
        let first : R x y ≡ true = h 0 (omega arith) in
        let rest = turns_from_neighbours (y ∷ ys) d (λ k l. subst (λ n. R (get_or (y ∷ ys) k d) (get_or (x ∷ y ∷ ys) n d) ≡ true) {x = suc k + 1} {y = suc (k + 1)} (omega arith) (h (suc k) (omega arith))) in
        ((first, past x y ys first rest.0), rest)

    -- what `is_sorted_by` answers
    pub turns_decided : (xs : List X) (r : Bool) → IsAllAdjacentAnswer (λ x y b. b ≡ R x y) xs r → Decides r (InTurn xs)
    turns_decided [] true h = ((λ e. tt), λ t. refl)
    turns_decided [] false h = let l = h.1 in let no : ⊥ = omega arith in absurd no
    turns_decided (x ∷ xs) true h = ((λ e. turns_from_neighbours (x ∷ xs) x (λ k l. sym (h k x l))), λ t. refl)
    turns_decided (x ∷ xs) false h = ((λ e. absurd cc), λ t. h.2 x ∙ neighbours_in_turn (x ∷ xs) h.0 x t h.1)

module _ {X : Type 0} {R : X → X → Ordering} (o : IsTotalOrder R) where
  -- the same by an order
  pub order_decided : (xs : List X) (r : Bool) → IsAllAdjacentAnswer (λ x y b. b ≡ is_lt (R x y)) xs r → Decides r (IsStrictlySortedBy R xs)
  unfolding IsStrictlySortedBy
  order_decided [] true h = ((λ e. tt), λ t. refl)
  order_decided [] false h = let l = h.1 in let no : ⊥ = omega arith in absurd no
  order_decided (x ∷ xs) true h = ((λ e. sorted_from_all_adjacent o (x ∷ xs) x (λ k l. less_true _ (sym (h k x l)))), λ t. refl)
  order_decided (x ∷ xs) false h = ((λ e. absurd cc), λ t. h.2 x ∙ ap is_lt (Less-from_sorted R (x ∷ xs) h.0 (h.0 + 1) x t (let l = h.1 in omega arith) h.1))
