-- Tokens cut no character: what goes on in the middle of one would be a longer token.
use Rattle.std.proofs.Common.{◌≡◌, ◌⊎◌, inl, inr, ℕ, suc, ◌+◌, ◌-◌, ◌<◌, ◌≤◌, ◌==◌, Bool, true, false, not, ◌&&◌, ◌||◌, leb, ltb, IsTrue, List, [], ◌∷◌, ◌++◌, length, take, drop, get_or, refl, sym, ap, subst, ◌∙◌, append_assoc, arith}
use Rattle.std.specs.Prelude.{slice_range}
use Rattle.std.specs.List.{list_all, AllByRecursion}
use Rattle.std.specs.Char.{is_ascii_digit, is_ascii_hexdigit, is_ascii_alphabetic}
use Rattle.std.specs.Str.{IsUtf8, IsCharBoundary}
use Rattle.std.proofs.Math.Seq.{take-suc, drop-cons}
use Rattle.std.proofs.lemmas.Bool.{eqb-true, leb-true, leb-false, le-leb, ltb-true, ltb-false}
use Rattle.std.proofs.lemmas.List.{length-append, length-drop, length-take, get_or-take, get_or-drop}
use Rattle.std.proofs.lemmas.List.Folds.{list_all-append}
use Rattle.std.proofs.lemmas.Str.{IsCharBoundary-start, IsCharBoundary-end, IsCharBoundary-before_ascii, IsCharBoundary-after_ascii, IsUtf8-between}
use Rattle.cr_lex.specs.declared.token.Token.{Token}
use Rattle.cr_lex.specs.declared.token.TokenKind.{TokenKind}
use Rattle.cr_lex.specs.declared.token.TokenKind.TheVariants as k
use Rattle.cr_lex.specs.Texts.{is_blank, is_more, is_sign, is_pair}
use Rattle.cr_lex.specs.Tokens.{Each, IsDigits, IsInt, IsPlusMinus, IsExponent, IsPointed, IsNumber, IsQuoted, IsName, IsX, begins_nothing, IsToken, IsNext, IsBlank, AreBlanks, IsTokens, doubled}
use Rattle.cr_lex.specs.Laws.{IsOfWholeCharacters}
use Rattle.cr_lex.proofs.Parts.{told, both, either, contradiction}
use Rattle.cr_lex.proofs.Classes.{sign_is, pair_is, between}

-- ---- bytes of ASCII

abbrev is_low : ℕ → Bool
is_low c = leb c 127

low : (c : ℕ) → c ≤ 127 → is_low c ≡ true
low c h = le-leb c 127 h

low_digit : (c : ℕ) → is_ascii_digit c ≡ true → is_low c ≡ true
low_digit c e = low c (omega (arith, between 48 57 c e))

each_of : (p q : ℕ → Bool) → ((c : ℕ) → p c ≡ true → q c ≡ true) → (w : List ℕ) → Each p w → Each q w
each_of p q h [] e = refl
each_of p q h (c ∷ cs) e = let parts = both (p c) (list_all p cs) e in rw (h c parts.0) (each_of p q h cs parts.1)

each_append : (p : ℕ → Bool) (v w : List ℕ) → Each p v → Each p w → Each p (v ++ w)
each_append p v w e f = list_all-append p v w ∙ rw e f

-- the last byte is of ASCII
abbrev EndsLow : List ℕ → Type 0
EndsLow w = (front : List ℕ) × (c : ℕ) × (c ≤ 127) × (w ≡ front ++ c ∷ [])

ends_low : (w : List ℕ) → Each is_low w → 0 < length w → EndsLow w
ends_low [] e some = absurd (omega (arith, some))
ends_low (c ∷ []) e some = ([], c, leb-true c 127 (both (is_low c) true e).0, refl)
ends_low (c ∷ d ∷ cs) e some =
    let last = ends_low (d ∷ cs) (both (is_low c) (list_all is_low (d ∷ cs)) e).1 (omega arith) in
    (c ∷ last.0, last.1, last.2, ap (λ z. c ∷ z) last.3)

last_is : (front : List ℕ) (c : ℕ) → get_or (front ++ c ∷ []) (length front) 0 ≡ c
last_is [] c = refl
last_is (d ∷ ds) c = last_is ds c

last_low : (w : List ℕ) (c : ℕ) → Each is_low (w ++ c ∷ []) → c ≤ 127
last_low [] c e = leb-true c 127 (both (is_low c) true e).0
last_low (d ∷ ds) c e = last_low ds c (both (is_low d) (list_all is_low (ds ++ c ∷ [])) e).1

or_true : (a : Bool) → (a || true) ≡ true
or_true true = refl
or_true false = refl

-- a byte above ASCII goes on with a word
more_high : (c : ℕ) → 128 ≤ c → is_more c ≡ true
more_high c h = ap (λ b. (is_ascii_alphabetic c || (c == 95 || b)) || (is_ascii_digit c || c == 36)) (le-leb 128 c h)
    ∙ (ap (λ b. (is_ascii_alphabetic c || b) || (is_ascii_digit c || c == 36)) (or_true (c == 95)) ∙ ap (λ b. b || (is_ascii_digit c || c == 36)) (or_true (is_ascii_alphabetic c)))

nothing_low : (c : ℕ) → IsTrue (begins_nothing c) → c ≤ 127
nothing_low c e = elim (told (is_low c)) [
  | inl is ↦ leb-true c 127 is
  | inr high ↦ absurd (contradiction (begins_nothing c) e (starts (far high)))
]
  where
    far : is_low c ≡ false → 128 ≤ c
    far high = elim (told (leb 128 c)) [ inl is ↦ leb-true 128 c is | inr near ↦ absurd (contradiction (is_low c) (low c (omega (arith, leb-false 128 c near))) high) ]

    starts : 128 ≤ c → begins_nothing c ≡ false
    starts h = ap (λ b. not ((is_ascii_alphabetic c || (c == 95 || b)) || (is_ascii_digit c || (is_sign c || (c == 63 || (c == 39 || (c == 34 || (c == 96 || c == 91)))))))) (le-leb 128 c h)
        ∙ (ap (λ b. not ((is_ascii_alphabetic c || b) || (is_ascii_digit c || (is_sign c || (c == 63 || (c == 39 || (c == 34 || (c == 96 || c == 91)))))))) (or_true (c == 95))
        ∙ ap (λ b. not (b || (is_ascii_digit c || (is_sign c || (c == 63 || (c == 39 || (c == 34 || (c == 96 || c == 91)))))))) (or_true (is_ascii_alphabetic c)))

-- ---- numbers

low_hex : (c : ℕ) → is_ascii_hexdigit c ≡ true → is_low c ≡ true
low_hex c e = elim (either ((leb 48 c && leb c 57) || (leb 65 c && leb c 70)) (leb 97 c && leb c 102) e) [
  | inl h ↦ elim (either (leb 48 c && leb c 57) (leb 65 c && leb c 70) h) [ inl digit ↦ low c (omega (arith, between 48 57 c digit)) | inr upper ↦ low c (omega (arith, between 65 70 c upper)) ]
  | inr lower ↦ low c (omega (arith, between 97 102 c lower))
]

low_digits : (w : List ℕ) → Each is_ascii_digit w → Each is_low w
low_digits w e = each_of is_ascii_digit is_low low_digit w e

low_int : (w : List ℕ) → IsInt w → Each is_low w
low_int w (inl digits) = low_digits w digits.0
low_int w (inr (digits, each, some, is)) = subst (Each is_low) (sym is) (each_of is_ascii_hexdigit is_low low_hex digits each)

low_pointed : (w : List ℕ) → IsPointed w → Each is_low w
low_pointed w (whole, part, a, b, some, is) = subst (Each is_low) (sym is) (each_append is_low whole (46 ∷ part) (low_digits whole a) (low_digits part b))

low_sign : (w : List ℕ) → IsPlusMinus w → Each is_low w
low_sign w (inl is) = subst (Each is_low) (sym is) refl
low_sign w (inr (inl is)) = subst (Each is_low) (sym is) refl
low_sign w (inr (inr is)) = subst (Each is_low) (sym is) refl

low_e : (c : ℕ) → IsTrue (c == 101 || c == 69) → is_low c ≡ true
low_e c h = elim (either (c == 101) (c == 69) h) [ inl is ↦ low c (omega (arith, eqb-true c 101 is)) | inr is ↦ low c (omega (arith, eqb-true c 69 is)) ]

low_exponent : (w : List ℕ) → IsExponent w → Each is_low w
low_exponent w (c, sign, digits, is_e, plus_minus, are, is) = subst (Each is_low) (sym is) (each_append is_low (c ∷ []) (sign ++ digits) (rw (low_e c is_e) refl) (each_append is_low sign digits (low_sign sign plus_minus) (low_digits digits are.0)))

low_mantissa : (w : List ℕ) → IsPointed w ⊎ IsDigits w → Each is_low w
low_mantissa w (inl pointed) = low_pointed w pointed
low_mantissa w (inr digits) = low_digits w digits.0

low_number : (w : List ℕ) → IsNumber w → Each is_low w
low_number w (inl int) = low_int w int
low_number w (inr (inl pointed)) = low_pointed w pointed
low_number w (inr (inr (mantissa, exponent, m, x, is))) = subst (Each is_low) (sym is) (each_append is_low mantissa exponent (low_mantissa mantissa m) (low_exponent exponent x))

-- ---- how tokens end

quoted_ends : (quote : ℕ) (w : List ℕ) → quote ≤ 127 → IsQuoted quote w → EndsLow w
quoted_ends quote w h (inside, is) = (quote ∷ doubled quote inside, quote, h, is)

name_ends : (w : List ℕ) → IsName w → EndsLow w
name_ends w (inl quoted) = quoted_ends 34 w (omega arith) quoted
name_ends w (inr (inl quoted)) = quoted_ends 96 w (omega arith) quoted
name_ends w (inr (inr (inside, each, is))) = (91 ∷ inside, 93, omega arith, is)

x_ends : (inside w : List ℕ) → IsX inside w → EndsLow w
x_ends inside w (x, is_x, each, is) = (x ∷ 39 ∷ inside, 39, omega arith, is)

sign_low : (c : ℕ) → IsTrue (is_sign c) → c ≤ 127
sign_low c e = sign_is (λ c. c ≤ 127) (omega arith) (omega arith) (omega arith) (omega arith) (omega arith) (omega arith) (omega arith) (omega arith) (omega arith) (omega arith) (omega arith) (omega arith) (omega arith) c e

pair_low : (a b : ℕ) → IsTrue (is_pair a b) → b ≤ 127
pair_low a b e = pair_is (λ a b. b ≤ 127) (omega arith) (omega arith) (omega arith) (omega arith) (omega arith) (omega arith) a b e

-- Before a byte above ASCII a token ends with one of ASCII, since else a longer one would begin there.
token_ends : (kind : TokenKind) (w : List ℕ) (b : ℕ) (rest : List ℕ) → 128 ≤ b → 0 < length w → IsToken kind w (b ∷ rest) → ((other : TokenKind) → IsToken other (w ++ b ∷ []) rest → ⊥) → EndsLow w
token_ends k.Ident w b rest h some (inl (c, more, start, each, is)) longer =
    absurd (longer k.Ident (inl (c, more ++ b ∷ [], start, each_append is_more more (b ∷ []) each (rw (more_high b h) refl), ap (λ z. z ++ b ∷ []) is)))
token_ends k.Ident w b rest h some (inr (name, legal)) longer = name_ends w name
token_ends k.Int w b rest h some int longer = ends_low w (low_int w int) some
token_ends k.Real w b rest h some real longer = ends_low w (low_number w (inr real)) some
token_ends k.Text w b rest h some (quoted, legal) longer = quoted_ends 39 w (omega arith) quoted
token_ends k.Blob w b rest h some (inside, x, hex) longer = x_ends inside w x
token_ends k.Param w b rest h some (digits, each, is) longer = ends_low w (subst (Each is_low) (sym is) (low_digits digits each)) some
token_ends k.Op w b rest h some (inl (a, sign, is)) longer = ([], a, sign_low a sign, is)
token_ends k.Op w b rest h some (inr (a, c, pair, is)) longer = (a ∷ [], c, pair_low a c pair, is)
token_ends k.Open w b rest h some (opened, none) longer = absurd (cc)
token_ends k.Illegal w b rest h some (inl (number, tail, is_number, each, is, spoilt)) longer =
    absurd (longer k.Illegal (inl (
      number,
      tail ++ b ∷ [],
      is_number,
      each_append is_more tail (b ∷ []) each (rw (more_high b h) refl),
      ap (λ z. z ++ b ∷ []) is ∙ append_assoc number tail (b ∷ []),
      λ m. omega (arith, h, last_low w b (low_number (w ++ b ∷ []) m)),
    )))
token_ends k.Illegal w b rest h some (inr (inl (inside, x, no_hex))) longer = x_ends inside w x
token_ends k.Illegal w b rest h some (inr (inr (inl (inl name, illegal)))) longer = name_ends w name
token_ends k.Illegal w b rest h some (inr (inr (inl (inr quoted, illegal)))) longer = quoted_ends 39 w (omega arith) quoted
token_ends k.Illegal w b rest h some (inr (inr (inr (c, nothing, is)))) longer = ([], c, nothing_low c nothing, is)

-- ---- in a text

module _ (text : List ℕ) (utf8 : IsUtf8 text) where
  -- a byte of a part of the text
  of_part : (from to i : ℕ) → from + i < to → get_or (slice_range text from to) i 0 ≡ get_or text (from + i) 0
  of_part from to i h = get_or-take (to - from) (drop from text) i 0 (omega (arith, h)) ∙ get_or-drop from text i 0

  length_of : (from to : ℕ) → from ≤ to → to ≤ length text → length (slice_range text from to) ≡ to - from
  length_of from to h fits = omega (arith, h, fits, length-take (to - from) (drop from text), length-drop from text)

  -- behind a byte of ASCII
  behind_low : (from to : ℕ) → from < to → to ≤ length text → EndsLow (slice_range text from to) → IsCharBoundary text to
  behind_low from to h fits (front, c, is_low, is) =
      let len : suc (length front) ≡ to - from = omega (arith, ap length is, length-append front (c ∷ []), length_of from to (omega (arith, h)) fits) in
      let last : get_or text (from + length front) 0 ≡ c = sym (of_part from to (length front) (omega (arith, len, h))) ∙ (ap (λ w. get_or w (length front) 0) is ∙ last_is front c) in
      let place : (from + length front) + 1 ≡ to = omega (arith, len, h) in
      subst (IsCharBoundary text) place (IsCharBoundary-after_ascii text (from + length front) utf8 (omega (arith, len, h, fits)) (omega (arith, last, is_low)))

  at_end : (to : ℕ) → to ≤ length text → drop to text ≡ [] → IsCharBoundary text to
  at_end to fits none = subst (IsCharBoundary text) (let e : length text ≡ to = omega (arith, fits, ap length none, length-drop to text) in e) (IsCharBoundary-end text)

  -- ---- tokens

  rest_at : (to : ℕ) → to < length text → drop to text ≡ get_or text to 0 ∷ drop (suc to) text
  rest_at to h = drop-cons text to 0 h

  one_more : (from to : ℕ) → from ≤ to → to < length text → slice_range text from (suc to) ≡ slice_range text from to ++ get_or text to 0 ∷ []
  one_more from to h fits =
      let n : suc to - from ≡ suc (to - from) = omega (arith, h) in
      let place : from + (to - from) ≡ to = omega (arith, h) in
      ap (λ m. take m (drop from text)) n
      ∙ (take-suc (drop from text) (to - from) 0 (omega (arith, h, fits, length-drop from text))
      ∙ ap (λ c. slice_range text from to ++ c ∷ []) (get_or-drop from text (to - from) 0 ∙ ap (λ i. get_or text i 0) place))

  token_boundary : (kind : TokenKind) (from to : ℕ) → IsNext text kind from to → IsCharBoundary text to
  token_boundary kind from to n = elim (told (ltb to (length text))) [
    | inl before ↦ within (ltb-true to (length text) before)
    | inr past ↦ subst (IsCharBoundary text) (let e : length text ≡ to = omega (arith, n.in_text, ltb-false to (length text) past) in e) (IsCharBoundary-end text)
  ]
    where
      no_longer : to < length text → (other : TokenKind) → IsToken other (slice_range text from to ++ get_or text to 0 ∷ []) (drop (suc to) text) → ⊥
      no_longer h other t = elim (n.longest other (suc to) (omega (arith, n.in_order)) (omega (arith, h)) (subst (λ w. IsToken other w (drop (suc to) text)) (sym (one_more from to (omega (arith, n.in_order)) h)) t)) [
        | inl less ↦ omega (arith, less)
        | inr same ↦ omega (arith, same.0)
      ]

      within : to < length text → IsCharBoundary text to
      within h = elim (told (leb 128 (get_or text to 0))) [
        | inl high ↦ behind_low from to n.in_order n.in_text
            (token_ends kind (slice_range text from to) (get_or text to 0) (drop (suc to) text) (leb-true 128 (get_or text to 0) high) (omega (arith, n.in_order, length_of from to (omega (arith, n.in_order)) n.in_text))
            (subst (IsToken kind (slice_range text from to)) (rest_at to h) n.spelled) (no_longer h))
        | inr not_high ↦ IsCharBoundary-before_ascii text to h (omega (arith, leb-false 128 (get_or text to 0) not_high))
      ]

  -- ---- blanks and comments

  blank_low : (c : ℕ) → IsTrue (is_blank c) → c ≤ 127
  blank_low c e = elim (either (c == 9) (c == 10 || (c == 12 || (c == 13 || c == 32))) e) [
    | inl is ↦ omega (arith, eqb-true c 9 is)
    | inr e ↦ elim (either (c == 10) (c == 12 || (c == 13 || c == 32)) e) [
      | inl is ↦ omega (arith, eqb-true c 10 is)
      | inr e ↦ elim (either (c == 12) (c == 13 || c == 32) e) [
        | inl is ↦ omega (arith, eqb-true c 12 is)
        | inr e ↦ elim (either (c == 13) (c == 32) e) [ inl is ↦ omega (arith, eqb-true c 13 is) | inr is ↦ omega (arith, eqb-true c 32 is) ]
      ]
    ]
  ]

  before_line_feed : (to : ℕ) (more : List ℕ) → to ≤ length text → drop to text ≡ 10 ∷ more → IsCharBoundary text to
  before_line_feed to more fits e =
      let h : to < length text = omega (arith, fits, ap length e, length-drop to text) in
      let is : get_or text to 0 ≡ 10 = ap (λ z. get_or z 0 0) (sym (rest_at to h) ∙ e) in
      IsCharBoundary-before_ascii text to h (omega (arith, is))

  blank_boundary : (from to : ℕ) → from < to → to ≤ length text → IsBlank (slice_range text from to) (drop to text) → IsCharBoundary text to
  blank_boundary from to h fits (inl (c, blank, is)) = behind_low from to h fits ([], c, blank_low c blank, is)
  blank_boundary from to h fits (inr (inl (inside, each, is, inl none))) = at_end to fits none
  blank_boundary from to h fits (inr (inl (inside, each, is, inr (more, line)))) = before_line_feed to more fits line
  blank_boundary from to h fits (inr (inr (inside, inl (none, is)))) = behind_low from to h fits (47 ∷ 42 ∷ (inside ++ 42 ∷ []), 47, omega arith, is ∙ ap (λ z. 47 ∷ 42 ∷ z) (sym (append_assoc inside (42 ∷ []) (47 ∷ []))))
  blank_boundary from to h fits (inr (inr (inside, inr (none, is, end)))) = at_end to fits end

  blanks_boundary : (from : ℕ) (ends : List ℕ) (to : ℕ) → IsCharBoundary text from → AreBlanks text from ends to → IsCharBoundary text to
  blanks_boundary from [] to b e = subst (IsCharBoundary text) e b
  blanks_boundary from (end ∷ ends) to b (h, fits, blank, more) = blanks_boundary end ends to (blank_boundary from end h fits blank) more

  -- ---- all of them

  each_token : (at : ℕ) (tokens : List Token) → IsCharBoundary text at → IsTokens text at tokens → AllByRecursion (IsOfWholeCharacters text) tokens
  each_token at [] b e = tt
  each_token at (t ∷ ts) b (gap, next, more) =
      let begins = blanks_boundary at gap.ends t.from b gap.blanks in
      let ends = token_boundary t.kind t.from t.to next in
      ((begins, ends, IsUtf8-between text t.from t.to utf8 (omega (arith, next.in_order)) begins ends), each_token t.to ts ends more)

  pub tokens_cut_nothing : (tokens : List Token) → IsTokens text 0 tokens → AllByRecursion (IsOfWholeCharacters text) tokens
  tokens_cut_nothing tokens e = each_token 0 tokens (IsCharBoundary-start text utf8) e
