-- What hexadecimal digits spell.
use Rattle.std.proofs.Common.{◌≡◌, ◌↔◌, ◌∙◌, ◌==◌, ◌&&◌, ◌||◌, ◌<◌, ◌+◌, ◌*◌, ◌/◌, ◌%◌, inl, inr, sym, ap, subst, refl}
use Rattle.std.proofs.Common.{arith, ℕ, zero, suc, Bool, true, false, Ok, Err, Result, List, [], ◌∷◌, length, Option}
use Rattle.std.proofs.Common.{Some, None, is_some}
use Rattle.std.specs.Prelude.{slice_get}
use Rattle.std.specs.List.{AllByRecursion, AllPass}
use Rattle.std.specs.Option.{option_map_or}
use Rattle.std.specs.Result.{result_ok}
use Rattle.std.proofs.lemmas.Bool.{and_parts, cases_lt, eqb-true, or_cases}
use Rattle.std.proofs.lemmas.List.Elements.{All-head, All-tail}
use Rattle.std.proofs.lemmas.Option.{get_or_from_slice_get, slice_get_within}
use Rattle.hex.specs.Hex.{decode_pairs, decode_sized, digit_or_error, hex_digit_value, is_hex_digit, lower_digits}
use Rattle.hex.specs.Hex.{pair_value, upper_digits, value_at}
use Rattle.hex.specs.declared.error.FromHexError.{FromHexError}
use Rattle.hex.proofs.HexLemmas.{IsDigits-lower_digits, IsDigits-upper_digits, IsOk-decode_sized, decode_of-even, decode_sized-twice}
use Rattle.hex.proofs.Pairs.{cons_byte, decode_pairs-ok_pair}
use Rattle.cr_options.specs.Options.{site_of}
use Rattle.cr_options.specs.Laws.{IsDigit, IsDigitOf, IsValue, Spells}

-- ---- one digit

is_small : (digit value : ℕ) → IsDigitOf value digit → value < 16
is_small digit value (inl h) = slice_get_within lower_digits value digit h
is_small digit value (inr h) = slice_get_within upper_digits value digit h

value_of_digit : (digit value : ℕ) → IsDigitOf value digit → hex_digit_value digit ≡ Some value
value_of_digit digit value (inl h) =
    subst (λ (c : ℕ). hex_digit_value c ≡ Some value) (get_or_from_slice_get lower_digits value digit 0 h)
    (IsDigits-lower_digits value (slice_get_within lower_digits value digit h))
value_of_digit digit value (inr h) =
    subst (λ (c : ℕ). hex_digit_value c ≡ Some value) (get_or_from_slice_get upper_digits value digit 0 h)
    (IsDigits-upper_digits value (slice_get_within upper_digits value digit h))

abbrev holds : Option ℕ → ℕ → Bool
holds o digit = option_map_or (λ d. d == digit) o false

-- the test of one digit, which computes
abbrev is_listed : ℕ → Option ℕ → Bool
is_listed digit None = true
is_listed digit (Some value) = holds (slice_get lower_digits value) digit || holds (slice_get upper_digits value) digit

abbrev are_listed : ℕ → Bool
are_listed zero = true
are_listed (suc n) = is_listed n (hex_digit_value n) && are_listed n

listed_below : (n digit : ℕ) → are_listed n ≡ true → digit < n → is_listed digit (hex_digit_value digit) ≡ true
listed_below zero digit h lt = absurd (omega arith)
listed_below (suc n) digit h lt =
    let parts = and_parts (is_listed n (hex_digit_value n)) (are_listed n) h in
    elim (cases_lt digit n) [
      | inl below ↦ listed_below n digit parts.1 below
      | inr top ↦
          let e : digit ≡ n = omega arith in
          rw e parts.0
    ]

held : (o : Option ℕ) (digit : ℕ) → holds o digit ≡ true → o ≡ Some digit
held (Some d) digit h = ap Some (eqb-true d digit h)
held None digit h = cc h

digit_of_value : (digit value : ℕ) → hex_digit_value digit ≡ Some value → IsDigitOf value digit
digit_of_value digit value h =
    let low : digit < 103 = grind (arith) in
    let test = rw h at (listed_below 103 digit refl low) in
    elim (or_cases (holds (slice_get lower_digits value) digit) (holds (slice_get upper_digits value) digit) test) [
      | inl a ↦ inl (held _ _ a)
      | inr b ↦ inr (held _ _ b)
    ]

digit_of_some : (digit : ℕ) (o : Option ℕ) → hex_digit_value digit ≡ o → is_some o ≡ true → IsDigit digit
digit_of_some digit (Some value) e h = (value, digit_of_value digit value e)
digit_of_some digit None e h = cc h

all_digits : (digits : List ℕ) → AllPass is_hex_digit digits → AllByRecursion IsDigit digits
all_digits [] h = tt
all_digits (d ∷ ds) h = (
  digit_of_some d (hex_digit_value d) refl (All-head (λ x. is_hex_digit x ≡ true) d ds h),
  all_digits ds (All-tail (λ x. is_hex_digit x ≡ true) d ds h),
)

-- ---- a site

spelled_length : (digits site : List ℕ) → Spells digits site → length digits ≡ 2 * length site
spelled_length [] [] h = refl
spelled_length [] (b ∷ bs) h = absurd h
spelled_length (a ∷ []) [] h = absurd h
spelled_length (a ∷ []) (b ∷ bs) h = absurd h
spelled_length (a ∷ c ∷ ds) [] h = absurd h
spelled_length (a ∷ c ∷ ds) (b ∷ bs) h = let e = spelled_length ds bs h.2 in omega (arith, e)

pairs_spelled : (i : ℕ) (digits site : List ℕ) → Spells digits site → decode_pairs i digits ≡ Ok site
unfolding decode_pairs
pairs_spelled i [] [] h = refl
pairs_spelled i [] (b ∷ bs) h = absurd h
pairs_spelled i (a ∷ []) [] h = absurd h
pairs_spelled i (a ∷ []) (b ∷ bs) h = absurd h
pairs_spelled i (a ∷ c ∷ ds) [] h = absurd h
pairs_spelled i (a ∷ c ∷ ds) (b ∷ bs) h =
    let high : value_at a i ≡ Ok (b / 16) = ap (digit_or_error a i) (value_of_digit a (b / 16) h.0) in
    let low : value_at c (i + 1) ≡ Ok (b % 16) = ap (digit_or_error c (i + 1)) (value_of_digit c (b % 16) h.1) in
    let pair : pair_value a c i ≡ Ok (b / 16 * 16 + b % 16) = rw (high, low) refl in
    let whole : b / 16 * 16 + b % 16 ≡ b = omega arith in
    decode_pairs-ok_pair i a c _ ds pair ∙ ap (cons_byte (b / 16 * 16 + b % 16)) (pairs_spelled (i + 2) ds bs h.2)
    ∙ ap (λ (v : ℕ). Ok (v ∷ bs)) whole

site_spelled : (digits site : List ℕ) → Spells digits site → length site ≡ 16 → site_of digits ≡ Some site
site_spelled digits site h size =
    let len = spelled_length digits site h in
    let twice : length digits ≡ 2 * 16 = omega arith in
    let even : length digits % 2 ≡ 0 = omega arith in
    ap result_ok (decode_sized-twice digits 16 twice ∙ decode_of-even digits even ∙ pairs_spelled 0 digits site h)

pub digits_spell : (n : ℕ) (digits : List ℕ) → length digits ≡ 2 * n → AllByRecursion IsDigit digits
    → (site : List ℕ) × Spells digits site × (length site ≡ n)
digits_spell zero [] len h = ([], tt, refl)
digits_spell zero (a ∷ ds) len h = absurd (omega arith)
digits_spell (suc n) [] len h = absurd (omega arith)
digits_spell (suc n) (a ∷ []) len h = absurd (omega arith)
digits_spell (suc n) (a ∷ c ∷ ds) len h =
    let rest = digits_spell n ds (omega arith) h.1.1 in
    let low = is_small c h.1.0.0 h.1.0.1 in
    let high : (h.0.0 * 16 + h.1.0.0) / 16 ≡ h.0.0 = omega arith in
    let left : (h.0.0 * 16 + h.1.0.0) % 16 ≡ h.1.0.0 = omega arith in
    let size = rest.2 in (
      (h.0.0 * 16 + h.1.0.0) ∷ rest.0,
      (
        subst (λ (v : ℕ). IsDigitOf v a) (sym high) h.0.1,
        subst (λ (v : ℕ). IsDigitOf v c) (sym left) h.1.0.1,
        rest.1,
      ),
      omega (arith, size),
    )

read_ok : (r : Result (List ℕ) FromHexError) (site : List ℕ) → result_ok r ≡ Some site → r ≡ Ok site
read_ok (Ok s) site h = cc h
read_ok (Err e) site h = cc h

spelled_site : (digits site : List ℕ) → site_of digits ≡ Some site → Spells digits site × (length site ≡ 16)
spelled_site digits site h =
    let ok = read_ok (decode_sized digits 16) site h in
    let parts = (IsOk-decode_sized digits 16).0 (rw ok refl) in
    let found = digits_spell 16 digits parts.0 (all_digits digits parts.1) in
    let same : found.0 ≡ site = cc (sym (site_spelled digits found.0 found.1 found.2) ∙ h) in
    (subst (λ (s : List ℕ). Spells digits s) same found.1, subst (λ (s : List ℕ). length s ≡ 16) same found.2)

pub site_is_spelled : (digits site : List ℕ) → (site_of digits ≡ Some site) ↔ (Spells digits site × (length site ≡ 16))
site_is_spelled digits site = (spelled_site digits site, λ h. site_spelled digits site h.0 h.1)

-- what spells a site does not begin with a hyphen
pub digits_are_value : (digits site : List ℕ) → Spells digits site → length site ≡ 16 → IsValue digits
digits_are_value [] [] h size = absurd (omega arith)
digits_are_value [] (b ∷ bs) h size = absurd h
digits_are_value (a ∷ []) [] h size = absurd h
digits_are_value (a ∷ []) (b ∷ bs) h size = absurd h
digits_are_value (a ∷ c ∷ ds) [] h size = absurd h
digits_are_value (a ∷ c ∷ ds) (b ∷ bs) h size = inr (λ e.
    let hyphen : a ≡ 45 = cc e in
    let none : None ≡ Some (b / 16) = rw hyphen at (value_of_digit a (b / 16) h.0) in
    cc none)
