-- Digits and the numbers that they spell.
use Rattle.std.proofs.Common.{◌≡◌, ◌≢◌, inl, inr, ℕ, zero, suc, ◌<◌, ◌≤◌, true, ltb, min, List, [], ◌∷◌, length, get_or, Some, Result, Ok, Err, ap, ◌∙◌, arith}
use Rattle.std.specs.List.{list_all}
use Rattle.std.specs.Option.{option_map}
use Rattle.std.specs.Result.{result_unwrap_or}
use Rattle.std.specs.Char.{is_digit, digit_value}
use Rattle.std.specs.Str.{IsUtf8}
use Rattle.std.specs.Str.Parse.{AllDigits, IsNumeral, digits_value, without_leading_plus, ParsesUnsigned}
use Rattle.std.proofs.lemmas.Bool.{ltb-true}
use Rattle.std.proofs.lemmas.Bool.Decides.{nat_tests}
use Rattle.std.proofs.lemmas.Str.{IsUtf8-from_ascii}
use Rattle.std.proofs.lemmas.Str.Parse.{without_leading_plus_none}
use Rattle.cr_lex.proofs.Parts.{both, told}
use Rattle.cr_lex.specs.Spelling.{is_numeral, number}

ascii : (c radix : ℕ) → radix ≤ 36 → is_digit c radix ≡ true → c < 128
ascii c radix le h = grind (arith, nat_tests)

all_ascii : (radix : ℕ) (w : List ℕ) → radix ≤ 36 → list_all (λ c. is_digit c radix) w ≡ true → (i : ℕ) → get_or w i 0 < 128
all_ascii radix [] le h i = omega arith
all_ascii radix (c ∷ cs) le h zero = ascii c radix le (both (is_digit c radix) (list_all (λ d. is_digit d radix) cs) h).0
all_ascii radix (c ∷ cs) le h (suc i) = all_ascii radix cs le (both (is_digit c radix) (list_all (λ d. is_digit d radix) cs) h).1 i

all_digits : (radix : ℕ) (w : List ℕ) → list_all (λ c. is_digit c radix) w ≡ true → AllDigits radix w
all_digits radix [] h = tt
all_digits radix (c ∷ cs) h =
    let t = both (is_digit c radix) (list_all (λ d. is_digit d radix) cs) h in
    (ltb-true (digit_value c) radix t.0, all_digits radix cs t.1)

pub is_text : (radix : ℕ) (w : List ℕ) → radix ≤ 36 → is_numeral radix w ≡ true → IsUtf8 w
is_text radix w le h = IsUtf8-from_ascii w (all_ascii radix w le (both (ltb 0 (length w)) (list_all (λ c. is_digit c radix) w) h).1)

numeral : (radix : ℕ) (w : List ℕ) → is_numeral radix w ≡ true → IsNumeral radix w
numeral radix w h =
    let t = both (ltb 0 (length w)) (list_all (λ c. is_digit c radix) w) h in
    (ltb-true 0 (length w) t.0, all_digits radix w t.1)

no_plus : (radix : ℕ) (w : List ℕ) → radix ≤ 36 → IsNumeral radix w → get_or w 0 0 ≢ 43
no_plus radix [] le h = λ e. omega (arith, h.0)
no_plus radix (c ∷ cs) le h = λ e. let value : digit_value c ≡ 36 = ap digit_value e in omega (arith, h.1.0, value)

parsed : {E : Type 0} (radix : ℕ) (w : List ℕ) (r : Result ℕ E) → IsNumeral radix w → ParsesUnsigned 64 radix w r → without_leading_plus w ≡ w
    → result_unwrap_or r 18446744073709551615 ≡ min (digits_value radix w) 18446744073709551615
parsed radix w (Ok n) h p e =
    let value : n ≡ digits_value radix w = p.1 ∙ ap (digits_value radix) e in
    let less : digits_value radix w < 18446744073709551616 = rw e at p.0.1 in
    omega (arith, value, less)
parsed radix w (Err x) h p e = elim (told (ltb (digits_value radix w) 18446744073709551616)) [
  | inl less ↦ absurd (p (rw e (h, ltb-true (digits_value radix w) 18446744073709551616 less)))
  | inr more ↦ grind (arith, nat_tests)
]

pub number_is : {E : Type 0} (radix : ℕ) (w text : List ℕ) (r : Result ℕ E) → radix ≤ 36 → is_numeral radix w ≡ true → text ≡ w → ParsesUnsigned 64 radix text r
    → Some (result_unwrap_or r 18446744073709551615) ≡ option_map (λ n. min n 18446744073709551615) (number radix w)
unfolding number
number_is radix w text r le h e p =
    let is = numeral radix w h in
    rw h (ap Some (parsed radix w r is (rw e at p) (without_leading_plus_none w (no_plus radix w le is))))
