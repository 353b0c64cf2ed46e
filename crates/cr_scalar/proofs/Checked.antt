-- Numbers that were checked to stay in 64 bits.
use Rattle.std.proofs.Common.{◌≡◌, ◌≢◌, ◌<◌, ◌^◌, ◌==◌, zero, suc, arith, eqb-true, ℤ, pos, negsuc, neg_ℤ, Bool, true, false, cond, Option, Some, None, Ok, Err, SomeIff, refl, ap}
use Rattle.std.specs.Prelude.{FitsSigned, unsigned_abs, int_div, int_rem}
use Rattle.std.proofs.lemmas.Int.{ints}
use Rattle.std.specs.Option.{option_map_or}
use Rattle.std.specs.Int.{w64, IsNonZero, CanDivide}
use Rattle.cr_value.specs.declared.value.Value.TheVariants.{Int}
use Rattle.cr_value.specs.Affinity.{fits_i64}
use Rattle.cr_value.proofs.Numerals.{fits_yes, fits_from}
use Rattle.cr_scalar.specs.declared.fault.EvalFault.TheVariants.{Overflow}
use Rattle.cr_scalar.specs.Meaning.{Meant}
use Rattle.cr_scalar.specs.Numbers.{in_range, is_zero, calculated}
use Rattle.cr_term.specs.declared.operator.Arithmetic.TheVariants.{Divide, Remainder}

checked : Option ℤ → Meant
checked r = option_map_or (λ n. Ok (Int n)) r (Err Overflow)

no_range : (b : Bool) (z : ℤ) → (b ≡ true → ⊥) → Err Overflow ≡ cond b (Ok (Int z)) (Err Overflow)
no_range true z h = absurd (h refl)
no_range false z h = refl

pub in_range_sum : (r : Option ℤ) (z : ℤ) → SomeIff r (FitsSigned w64 z) z → option_map_or (λ n. Ok (Int n)) r (Err Overflow) ≡ in_range z
in_range_sum (Some x) z h = rw (fits_yes z h.0, h.1) refl
in_range_sum None z h = no_range (fits_i64 z) z (λ e. h (fits_from z e))

not_zero : (b : Bool) → (b ≡ true → ⊥) → b ≡ false
not_zero true h = absurd (h refl)
not_zero false h = refl

is_zero_no : (z : ℤ) → z ≢ pos 0 → is_zero z ≡ false
is_zero_no (pos n) h = not_zero (n == 0) (λ e. h (ap pos (eqb-true n 0 e)))
is_zero_no (negsuc n) h = refl

nonzero : (z : ℤ) → FitsSigned w64 z → z ≢ pos 0 → IsNonZero w64 z
nonzero z f h = omega (arith, ints)

divisible : (r : Option ℤ) (a b : ℤ) → IsNonZero w64 b → SomeIff r (CanDivide w64 a b) (int_div a b) → SomeIff r (FitsSigned w64 (int_div a b)) (int_div a b)
divisible (Some x) a b n h = (h.0.1, h.1)
divisible None a b n h = λ f. h (n, f)

pub quotient : (r : Option ℤ) (a b : ℤ) → FitsSigned w64 b → b ≢ pos 0 → SomeIff r (CanDivide w64 a b) (int_div a b)
    → option_map_or (λ n. Ok (Int n)) r (Err Overflow) ≡ calculated Divide a b
quotient r a b f n h = rw (is_zero_no b n) (in_range_sum r (int_div a b) (divisible r a b (nonzero b f n) h))

pub remainder : (a b : ℤ) → b ≢ pos 0 → Ok (Int (int_rem a b)) ≡ calculated Remainder a b
remainder a b n = rw (is_zero_no b n) refl

magnitude_fits : (r : Option ℤ) (n : ℤ) → FitsSigned w64 n → SomeIff r (FitsSigned w64 (neg_ℤ n)) (pos (unsigned_abs n)) → SomeIff r (FitsSigned w64 (pos (unsigned_abs n))) (pos (unsigned_abs n))
magnitude_fits r (pos zero) f h = h
magnitude_fits (Some x) (pos (suc n)) f h = (f, h.1)
magnitude_fits None (pos (suc n)) f h = λ g. h (record { sfits = (let k : suc n < 2 ^ 63 = f.sfits in omega arith) })
magnitude_fits r (negsuc n) f h = h

pub in_range_magnitude : (r : Option ℤ) (n : ℤ) → FitsSigned w64 n → SomeIff r (FitsSigned w64 (neg_ℤ n)) (pos (unsigned_abs n))
    → option_map_or (λ n. Ok (Int n)) r (Err Overflow) ≡ in_range (pos (unsigned_abs n))
in_range_magnitude r n f h = in_range_sum r (pos (unsigned_abs n)) (magnitude_fits r n f h)
