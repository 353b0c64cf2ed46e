-- Causal lengths and versions as integers: odd and even follow on one another, and one more is more.
use Rattle.std.proofs.Common.{◌≡◌, ℕ, zero, suc, ◌+◌, ◌%◌, ℤ, pos, negsuc, true, false, eqb, refl, sym, ap, ◌∙◌, Less, Greater, int_cmp, arith}
use Rattle.std.specs.Prelude.{◌+ℤ◌}
use Rattle.std.specs.Cmp.{int_cmp_is, int_ranks}
use Rattle.std.proofs.lemmas.Bool.{eqb-true, eq-eqb, eqb-false, ne_eqb}
use Rattle.std.proofs.lemmas.Int.{ints}
use Rattle.std.proofs.lemmas.Cmp.{by_ranked}
use Rattle.cr_lattice.specs.Check.{is_odd}

-- not greater
abbrev pub NotAbove : ℤ → ℤ → Type 0
NotAbove a b = int_cmp a b ≡ Greater → ⊥

odd_next : (n : ℕ) → eqb (n % 2) 1 ≡ false → eqb ((n + 1) % 2) 1 ≡ true
odd_next n e = eq-eqb _ _ (let ne = eqb-false _ _ e in omega (arith, ne))

even_next : (n : ℕ) → eqb (n % 2) 1 ≡ true → eqb ((n + 1) % 2) 1 ≡ false
even_next n e = ne_eqb _ _ (let eq = eqb-true _ _ e in omega (arith, eq))

odd_before : (n : ℕ) → eqb (suc n % 2) 1 ≡ false → eqb (n % 2) 1 ≡ true
odd_before n e = eq-eqb _ _ (let ne = eqb-false _ _ e in omega (arith, ne))

even_before : (n : ℕ) → eqb (suc n % 2) 1 ≡ true → eqb (n % 2) 1 ≡ false
even_before n e = ne_eqb _ _ (let eq = eqb-true _ _ e in omega (arith, eq))

pub odd_after_even : (z : ℤ) → is_odd z ≡ false → is_odd (z +ℤ pos 1) ≡ true
odd_after_even (pos n) e = odd_next n e
odd_after_even (negsuc zero) e = absurd cc
odd_after_even (negsuc (suc n)) e = let next : negsuc (suc n) +ℤ pos 1 ≡ negsuc n = omega (arith, ints) in ap is_odd next ∙ odd_before (suc n) e

pub even_after_odd : (z : ℤ) → is_odd z ≡ true → is_odd (z +ℤ pos 1) ≡ false
even_after_odd (pos n) e = even_next n e
even_after_odd (negsuc zero) e = refl
even_after_odd (negsuc (suc n)) e = let next : negsuc (suc n) +ℤ pos 1 ≡ negsuc n = omega (arith, ints) in ap is_odd next ∙ even_before (suc n) e

pub one_more : (a b : ℤ) → NotAbove a b → int_cmp a (b +ℤ pos 1) ≡ Less
one_more a b h =
    sym (int_cmp_is a (b +ℤ pos 1) Less
    (by_ranked _ _ _ (int_cmp a b) (int_ranks a b)
    (λ _ lt. omega (arith, ints, lt))
    (λ _ eq. omega (arith, ints, eq))
    (λ gt _. absurd (h gt))))

pub one_more_itself : (a : ℤ) → int_cmp (a +ℤ pos 1) a ≡ Greater
one_more_itself a = sym (int_cmp_is (a +ℤ pos 1) a Greater (omega (arith, ints)))
