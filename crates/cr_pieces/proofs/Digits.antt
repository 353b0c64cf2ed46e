-- Numbers and parameters.
use Rattle.std.proofs.Common.{◌≡◌, ◌≢◌, inl, inr, ℕ, suc, ◌+◌, ◌^◌, ◌<◌, ◌≤◌, ◌==◌, Bool, true, false, min, ◌||◌, List, [], ◌∷◌, ◌++◌, length, Some, None, refl, ap, ◌∙◌, arith}
use Rattle.std.specs.List.{prefix_len, list_all}
use Rattle.std.specs.Char.{is_ascii_digit, is_digit, digit_value}
use Rattle.std.specs.Fmt.{decimal}
use Rattle.std.specs.Str.Parse.{AllDigits, IsNumeral}
use Rattle.std.proofs.lemmas.Bool.{eqb-true, lt-ltb, le-leb}
use Rattle.std.proofs.lemmas.Bool.Decides.{nat_tests}
use Rattle.std.proofs.lemmas.Fmt.{decimal_is_IsNumeral}
use Rattle.cr_lex.specs.declared.token.TokenKind.TheVariants as t
use Rattle.cr_lex.specs.Texts.{is_start, is_more}
use Rattle.cr_lex.specs.Tokens.{Each}
use Rattle.cr_lex.specs.Reading.{first_is, hex_len, exponent_len, point_len, mantissa_len, decimal_len, number_at, number_token, token_at, blank_len}
use Rattle.cr_lex.proofs.Parts.{told, both, other_than, same, run_exact, stops_at, drop_front}
use Rattle.cr_lex.proofs.Classes.{not_one_of}
use Rattle.cr_tree.specs.declared.symbol.Symbol.TheVariants as k
use Rattle.cr_lex.specs.Spelling.{is_numeral, number, hex_digits}
use Rattle.cr_lex.specs.Symbols.{symbol}
use Rattle.cr_pieces.specs.Pieces.{IsPiece}
use Rattle.cr_pieces.specs.Known as known
use Rattle.cr_pieces.proofs.Follows.{begins_blank, neither, no_blank_at, passed_over, stops}

-- one digit or more
pub record Digits (w : List ℕ) : Type 0 where
  pub some : w ≢ []
  pub each : Each is_ascii_digit w

-- ---- the digits of a number

digit : (c : ℕ) → digit_value c < 10 → is_ascii_digit c ≡ true
digit c h = grind (arith, nat_tests)

each_digit : (w : List ℕ) → AllDigits 10 w → Each is_ascii_digit w
each_digit [] h = refl
each_digit (c ∷ cs) h = rw (digit c h.0) (each_digit cs h.1)

each_radix : (w : List ℕ) → AllDigits 10 w → list_all (λ c. is_digit c 10) w ≡ true
each_radix [] h = refl
each_radix (c ∷ cs) h = rw (lt-ltb (digit_value c) 10 h.0) (each_radix cs h.1)

some_of : (w : List ℕ) → 0 < length w → w ≢ []
some_of w h e = let none : length w ≡ 0 = ap length e in omega (arith, h, none)

pub decimal_digits : (n : ℕ) → n < 2 ^ 64 → Digits (decimal n)
decimal_digits n h = let is = decimal_is_IsNumeral n h in record { some = some_of (decimal n) is.0.0; each = each_digit (decimal n) is.0.1 }

numeral : (w : List ℕ) → IsNumeral 10 w → is_numeral 10 w ≡ true
numeral w h = rw (lt-ltb 0 (length w) h.0) (each_radix w h.1)

number_of : (n : ℕ) → n < 2 ^ 64 → number 10 (decimal n) ≡ Some n
unfolding number
number_of n h = let is = decimal_is_IsNumeral n h in rw (numeral (decimal n) is.0) (ap Some is.1)

-- ---- read as a number

digit_no_blank : (c : ℕ) → is_ascii_digit c ≡ true → begins_blank c ≡ false
digit_no_blank c e =
    rw (other_than is_ascii_digit c 9 e refl, other_than is_ascii_digit c 10 e refl, other_than is_ascii_digit c 12 e refl, other_than is_ascii_digit c 13 e refl, other_than is_ascii_digit c 32 e refl, other_than is_ascii_digit c 45 e refl, other_than is_ascii_digit c 47 e refl) refl

digits_no_blank : (w rest : List ℕ) → Digits w → blank_len (w ++ rest) ≡ 0
digits_no_blank [] rest d = absurd (d.some refl)
digits_no_blank (c ∷ cs) rest d = no_blank_at c (cs ++ rest) (digit_no_blank c (both (is_ascii_digit c) (list_all is_ascii_digit cs) d.each).0)

number_first : (w rest : List ℕ) → Digits w → token_at (w ++ rest) ≡ number_token (w ++ rest)
unfolding token_at
number_first [] rest d = absurd (d.some refl)
number_first (c ∷ cs) rest d =
    let e = (both (is_ascii_digit c) (list_all is_ascii_digit cs) d.each).0 in
    rw (other_than is_ascii_digit c 39 e refl, other_than is_ascii_digit c 34 e refl, other_than is_ascii_digit c 96 e refl, other_than is_ascii_digit c 91 e refl, other_than is_ascii_digit c 120 e refl, other_than is_ascii_digit c 88 e refl, e) refl

-- what is behind a number
record Behind (rest : List ℕ) : Type 0 where
  no_more : first_is is_more rest ≡ false
  no_digit : first_is is_ascii_digit rest ≡ false
  no_point : first_is (λ c. c == 46) rest ≡ false

behind : (rest : List ℕ) → first_is (λ c. is_more c || c == 46) rest ≡ false → Behind rest
behind [] e = record { no_more = refl; no_digit = refl; no_point = refl }
behind (c ∷ cs) e =
    let x = neither (is_more c) (c == 46) e in
    let y = neither (is_start c) (is_ascii_digit c || c == 36) x.0 in
    record { no_more = x.0; no_digit = (neither (is_ascii_digit c) (c == 36) y.1).0; no_point = x.1 }

no_hex : (w rest : List ℕ) → Digits w → Behind rest → hex_len (w ++ rest) ≡ 0
unfolding hex_len
no_hex [] rest d b = absurd (d.some refl)
no_hex (a ∷ []) [] d b = refl
no_hex (a ∷ []) (c ∷ cs) d b = passed_over (a == 48) (c == 120) _ 0 (not_one_of is_more c 120 b.no_more refl)
no_hex (a ∷ c ∷ cs) rest d b =
    let second = (both (is_ascii_digit c) (list_all is_ascii_digit cs) (both (is_ascii_digit a) (list_all is_ascii_digit (c ∷ cs)) d.each).1).0 in
    passed_over (a == 48) (c == 120) _ 0 (other_than is_ascii_digit c 120 second refl)

no_point : (rest : List ℕ) → Behind rest → point_len rest ≡ 0
unfolding point_len
no_point [] b = refl
no_point (c ∷ cs) b = rw b.no_point refl

no_exponent : (rest : List ℕ) → Behind rest → exponent_len rest ≡ 0
unfolding exponent_len
no_exponent [] b = refl
no_exponent (c ∷ cs) b = rw (not_one_of is_more c 101 b.no_more refl, not_one_of is_more c 69 b.no_more refl) refl

mantissa_is : (w rest : List ℕ) → Digits w → Behind rest → mantissa_len (w ++ rest) ≡ length w
unfolding mantissa_len
mantissa_is w rest d b = rw (run_exact is_ascii_digit w rest d.each b.no_digit, drop_front w rest, no_point rest b) (omega arith)

decimal_is : (w rest : List ℕ) → Digits w → Behind rest → decimal_len (w ++ rest) ≡ length w
unfolding decimal_len
decimal_is w rest d b = rw (mantissa_is w rest d b, drop_front w rest, no_exponent rest b) (omega arith)

number_at_is : (w rest : List ℕ) → Digits w → Behind rest → number_at (w ++ rest) ≡ (t.Int, length w)
unfolding number_at
number_at_is w rest d b = rw (no_hex w rest d b, run_exact is_ascii_digit w rest d.each b.no_digit, decimal_is w rest d b, same (length w)) refl

number_read : (w rest : List ℕ) → Digits w → Behind rest → token_at (w ++ rest) ≡ (t.Int, length w)
unfolding number_token
number_read w rest d b = number_first w rest d ∙ rw (number_at_is w rest d b, drop_front w rest, stops_at is_more rest b.no_more) refl

-- ---- numbers

no_hex_digits : (w : List ℕ) → Each is_ascii_digit w → hex_digits w ≡ None
unfolding hex_digits
no_hex_digits [] e = refl
no_hex_digits (a ∷ []) e = refl
no_hex_digits (a ∷ c ∷ cs) e =
    let second = (both (is_ascii_digit c) (list_all is_ascii_digit cs) (both (is_ascii_digit a) (list_all is_ascii_digit (c ∷ cs)) e).1).0 in
    passed_over (a == 48) (c == 120) (Some cs) None (other_than is_ascii_digit c 120 second refl)

number_means : (greatest n : ℕ) → n ≤ 9223372036854775808 → symbol t.Int greatest (decimal n) ≡ k.Number n
number_means greatest n le =
    let fits : n < 2 ^ 64 = omega arith in
    rw (no_hex_digits (decimal n) (decimal_digits n fits).each) (rw (number_of n fits) (rw (le-leb n 9223372036854775808 le) refl))

pub number_piece : (apart : Bool) (n : ℕ) → n ≤ 9223372036854775808 → IsPiece (known.number apart n)
number_piece apart n le =
    let fits : n < 2 ^ 64 = omega arith in
    let d = decimal_digits n fits in
    record {
      some = d.some;
      no_blank = λ rest follows. digits_no_blank (decimal n) rest d;
      one_token = λ rest follows. number_read (decimal n) rest d (behind rest (stops (λ c. is_more c || c == 46) rest refl follows));
      one_symbol = λ greatest. number_means greatest n le;
    }

-- ---- parameters

param_read : (w rest : List ℕ) → Digits w → first_is is_ascii_digit rest ≡ false → token_at (63 ∷ (w ++ rest)) ≡ (t.Param, suc (length w))
unfolding token_at
param_read w rest d stop =
    let run = run_exact is_ascii_digit w rest d.each stop in
    let long : 1 + prefix_len is_ascii_digit (w ++ rest) ≡ suc (length w) = omega (arith, run) in
    ap (λ (n : ℕ). (t.Param, n)) long

some_digits : (w : List ℕ) → w ≢ [] → (length w == 0) ≡ false
some_digits [] e = absurd (e refl)
some_digits (c ∷ cs) e = elim (told (suc (length cs) == 0)) [ inl none ↦ (let z : suc (length cs) ≡ 0 = eqb-true _ _ none in absurd (omega (arith, z))) | inr some ↦ some ]

param_means : (greatest n : ℕ) → n ≤ 1000 → symbol t.Param greatest (63 ∷ decimal n) ≡ k.Param n
param_means greatest n le =
    let fits : n < 2 ^ 64 = omega arith in
    let least : min 1000 n ≡ n = omega arith in
    rw (some_digits (decimal n) (decimal_digits n fits).some) (rw (number_of n fits) (ap k.Param least))

pub param_piece : (apart : Bool) (n : ℕ) → n ≤ 1000 → IsPiece (known.param apart n)
param_piece apart n le =
    let fits : n < 2 ^ 64 = omega arith in
    let d = decimal_digits n fits in
    record {
      some = λ e. cc;
      no_blank = λ rest follows. no_blank_at 63 (decimal n ++ rest) refl;
      one_token = λ rest follows. param_read (decimal n) rest d (stops is_ascii_digit rest refl follows);
      one_symbol = λ greatest. param_means greatest n le;
    }
