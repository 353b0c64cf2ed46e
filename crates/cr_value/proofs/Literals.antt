-- A literal that is read begins there, and one that begins there is read.
use Rattle.std.proofs.Common.{◌≡◌, ◌≢◌, ◌⊎◌, inl, inr, ℕ, suc, ◌+◌, ◌^◌, ◌<◌, ◌==◌, ℤ, pos, negsuc, Bool, true, false, cond, not, ◌&&◌, ◌||◌, IsTrue, ltb, List, [], ◌∷◌, ◌++◌, length, take, drop, get_or, Option, Some, None, Result, Ok, Err, refl, sym, ap, subst, ◌∙◌, append_assoc, arith}
use Rattle.std.specs.Prelude.{FitsSigned, codes}
use Rattle.std.specs.List.{prefix_len, starts_with}
use Rattle.std.specs.Char.{is_ascii_digit}
use Rattle.std.specs.Int.{w64}
use Rattle.std.specs.Fmt.{signed_decimal, decimal}
use Rattle.std.specs.Str.{IsUtf8, is_utf8, bytes_eq}
use Rattle.std.specs.Str.Parse.{starts_with_minus, without_leading_sign, signed_digits_value, digits_value, IsNumeral, AllDigits}
use Rattle.std.proofs.lemmas.Bool.{cases_lt, ltb-true, lt-ltb, le-leb, eqb-true}
use Rattle.std.proofs.lemmas.Bool.Decides.{Decides-eqb}
use Rattle.std.specs.List.{AllByRecursion}
use Rattle.std.proofs.lemmas.List.{take-append-drop, take_at, drop_at, drop_more, length-append, drop_all, get_or-drop}
use Rattle.std.proofs.lemmas.List.Elements.{recursion_from_All}
use Rattle.std.proofs.lemmas.Fmt.{decimal_is_IsNumeral, IsAscii-signed}
use Rattle.std.proofs.lemmas.Str.Parse.{digit_from_value}
use Rattle.std.proofs.lemmas.List.Sums.{prefix_len_stops}
use Rattle.std.proofs.lemmas.Slice.Eq.{starts_is, bytes_eq-Decides}
use Rattle.std.proofs.lemmas.Str.{IsUtf8-from_is_utf8, is_utf8-from_IsUtf8, IsUtf8-from_ascii}
use Rattle.hex.specs.Hex.{decode_of, is_hex_digit}
use Rattle.hex.specs.declared.error.FromHexError.{FromHexError}
use Rattle.hex.proofs.HexLemmas.{decode_of-ok}
use Rattle.cr_value.specs.declared.value.Value.{Value}
use Rattle.cr_value.specs.declared.value.Value.TheVariants.{Null, Int, Text, Blob}
use Rattle.cr_value.specs.Affinity.{int_of_text, is_numeral, fits_i64}
use Rattle.cr_value.specs.Literal.{is_control, is_printable, doubled, quoted, IsBlobLiteral, IsCastLiteral, IsLiteral}
use Rattle.cr_value.specs.Reading.{after_prefix, numeral_len, integer_at, with_byte, closed_at, text_of, quoted_at, decoded, digits_at, hex_at, blob_at, cast_at, null_at, literal_at}
use Rattle.cr_value.specs.Unpacking.{◌>>=◌}
use Rattle.cr_value.proofs.Numerals.{numeral_yes, fits_yes, fits_from}
use Rattle.cr_value.proofs.Fields.{bind_some, some_is, provided, chosen}

-- what a reader took from the front
abbrev pub Opens : List ℕ → Value → List ℕ → Type 0
Opens bytes v rest = (text : List ℕ) × (bytes ≡ text ++ rest) × IsLiteral v text rest

abbrev pair : {A B : Type 0} → A → B → A × B
pair a b = (a, b)

told : (b : Bool) → (b ≡ true) ⊎ (b ≡ false)
told true = inl refl
told false = inr refl

both : (a b : Bool) → (a && b) ≡ true → (a ≡ true) × (b ≡ true)
both true b e = (refl, e)
both false b e = absurd cc

never : (b : Bool) → (b ≡ true → ⊥) → b ≡ false
never true h = absurd (h refl)
never false h = refl

other : (c d : ℕ) → c ≢ d → (c == d) ≡ false
other c d ne = never (c == d) (λ e. ne (eqb-true c d e))

unless_true : {A : Type 0} (b : Bool) (r : Option A) (y : A) → cond b None r ≡ Some y → (b ≡ false) × (r ≡ Some y)
unless_true true r y e = absurd cc
unless_true false r y e = (refl, e)

-- ---- prefixes

prefix_takes : (prefix bytes rest : List ℕ) → after_prefix prefix bytes ≡ Some rest → bytes ≡ prefix ++ rest
unfolding after_prefix
prefix_takes prefix bytes rest e =
    let p = provided (starts_with (λ a b. a == b) bytes prefix) (Some (drop (length prefix) bytes)) rest e in
    let s = starts_is Decides-eqb bytes prefix (starts_with (λ a b. a == b) bytes prefix) refl in
    s.0 p.0 ∙ ap (λ (t : List ℕ). prefix ++ t) (some_is _ _ p.1)

prefix_again : (prefix rest : List ℕ) → after_prefix prefix (prefix ++ rest) ≡ Some rest
unfolding after_prefix
prefix_again prefix rest =
    let s = starts_is Decides-eqb (prefix ++ rest) prefix (starts_with (λ a b. a == b) (prefix ++ rest) prefix) refl in
    rw (s.1 rest refl, drop_at prefix rest (length prefix) refl) refl

-- how far a test passes
none_passes : (p : ℕ → Bool) (ys : List ℕ) → p (get_or ys 0 0) ≡ false → prefix_len p ys ≡ 0
none_passes p [] e = refl
none_passes p (y ∷ ys) e = rw e refl

all_pass : (p : ℕ → Bool) (xs ys : List ℕ) → AllByRecursion (λ x. p x ≡ true) xs → prefix_len p ys ≡ 0 → prefix_len p (xs ++ ys) ≡ length xs
all_pass p [] ys h e = e
all_pass p (x ∷ xs) ys h e = let more = all_pass p xs ys h.1 e in rw h.0 (omega (arith, more))

-- ---- quoted texts

-- what is read where a quote stands before that may be the closing one, or where none does
abbrev Reads : Bool → List ℕ → List ℕ × List ℕ → Type 0
Reads true bs x = (39 ∷ bs ≡ doubled x.0 ++ 39 ∷ x.1) × IsTrue (is_printable x.0) × ((get_or x.1 0 0 == 39) ≡ false)
Reads false bs x = (bs ≡ doubled x.0 ++ 39 ∷ x.1) × IsTrue (is_printable x.0) × ((get_or x.1 0 0 == 39) ≡ false)

a_quote : (c : ℕ) (cs : List ℕ) (x : List ℕ × List ℕ) → c ≡ 39 → Reads true cs x → Reads false (c ∷ cs) x
a_quote c cs x q r = (ap (λ (d : ℕ). d ∷ cs) q ∙ r.0, r.1, r.2)

two_quotes : (c : ℕ) (cs : List ℕ) (x : List ℕ × List ℕ) → c ≡ 39 → Reads false cs x → Reads true (c ∷ cs) (39 ∷ x.0, x.1)
unfolding doubled
two_quotes c cs x q r = (ap (λ (d : ℕ). 39 ∷ d ∷ cs) q ∙ ap (λ (t : List ℕ). 39 ∷ 39 ∷ t) r.0, r.1, r.2)

one_byte : (c : ℕ) (cs : List ℕ) (x : List ℕ × List ℕ) → (c == 39) ≡ false → is_control c ≡ false → Reads false cs x → Reads false (c ∷ cs) (c ∷ x.0, x.1)
unfolding doubled
one_byte c cs x n k r = (rw n (ap (λ (t : List ℕ). c ∷ t) r.0), rw k r.1, r.2)

closed_takes : (q : Bool) (bs : List ℕ) (x : List ℕ × List ℕ) → closed_at q bs ≡ Some x → Reads q bs x
unfolding closed_at doubled
closed_takes true [] x e = subst (Reads true []) (some_is (pair [] []) x e) (refl, refl, refl)
closed_takes false [] x e = absurd cc
closed_takes true (c ∷ cs) x e =
    elim (chosen (c == 39) (with_byte 39 (closed_at false cs)) (Some ([], c ∷ cs)) (Some x) e) [
      | inl quote ↦ (
          let b = bind_some (closed_at false cs) (λ y. Some (39 ∷ y.0, y.1)) x quote.1 in
          subst (Reads true (c ∷ cs)) (some_is (pair (39 ∷ b.0.0) b.0.1) x b.2) (two_quotes c cs b.0 (eqb-true c 39 quote.0) (closed_takes false cs b.0 b.1)))
      | inr other ↦ subst (Reads true (c ∷ cs)) (some_is (pair [] (c ∷ cs)) x other.1) (refl, refl, other.0)
    ]
closed_takes false (c ∷ cs) x e =
    elim (chosen (c == 39) (closed_at true cs) (cond (is_control c) None (with_byte c (closed_at false cs))) (Some x) e) [
      | inl quote ↦ a_quote c cs x (eqb-true c 39 quote.0) (closed_takes true cs x quote.1)
      | inr other ↦ (
          let plain = unless_true (is_control c) (with_byte c (closed_at false cs)) x other.1 in
          let b = bind_some (closed_at false cs) (λ y. Some (c ∷ y.0, y.1)) x plain.1 in
          subst (Reads false (c ∷ cs)) (some_is (pair (c ∷ b.0.0) b.0.1) x b.2) (one_byte c cs b.0 other.0 plain.0 (closed_takes false cs b.0 b.1)))
    ]

closing : (rest : List ℕ) → (get_or rest 0 0 == 39) ≡ false → closed_at true rest ≡ Some ([], rest)
unfolding closed_at
closing [] q = refl
closing (c ∷ cs) q = rw q refl

closed_again : (t rest : List ℕ) → IsTrue (is_printable t) → (get_or rest 0 0 == 39) ≡ false → closed_at false (doubled t ++ 39 ∷ rest) ≡ Some (t, rest)
unfolding closed_at doubled
closed_again [] rest p q = closing rest q
closed_again (c ∷ cs) rest p q =
    let parts = both (not (is_control c)) (is_printable cs) p in
    let more = closed_again cs rest parts.1 q in
    elim (told (c == 39)) [
      | inl quote ↦ rw (quote, more, eqb-true c 39 quote) refl
      | inr other ↦ rw (other, other, not_true (is_control c) parts.0, more) refl
    ]
  where
    not_true : (b : Bool) → not b ≡ true → b ≡ false
    not_true true e = absurd cc
    not_true false e = refl

text_takes : (t : List ℕ) (v : Value) → text_of t ≡ Some v → IsUtf8 t × (Text t ≡ v)
text_takes t v e = let p = provided (is_utf8 t) (Some (Text t)) v e in (IsUtf8-from_is_utf8 t p.0, some_is _ _ p.1)

quoted_takes : (bs rest : List ℕ) (v : Value) → quoted_at bs ≡ Some (v, rest) → Opens (39 ∷ bs) v rest
unfolding quoted_at
quoted_takes bs rest v e =
    let a = bind_some (closed_at false bs) (λ t. text_of t.0 >>= λ w. Some (w, t.1)) (v, rest) e in
    let b = bind_some (text_of a.0.0) (λ w. Some (w, a.0.1)) (v, rest) a.2 in
    let read = closed_takes false bs a.0 a.1 in
    let text = text_takes a.0.0 b.0 b.1 in
    subst (λ (y : Value × List ℕ). Opens (39 ∷ bs) y.0 y.1) (ap (λ (w : Value). pair w a.0.1) text.1 ∙ some_is (pair b.0 a.0.1) (v, rest) b.2)
    (quoted a.0.0, ap (λ (t : List ℕ). 39 ∷ t) (read.0 ∙ sym (append_assoc (doubled a.0.0) (39 ∷ []) a.0.1)), (text.0, inl (read.1, refl, read.2)))

quoted_again : (t rest : List ℕ) → IsUtf8 t → IsTrue (is_printable t) → (get_or rest 0 0 == 39) ≡ false → literal_at (quoted t ++ rest) ≡ Some (Text t, rest)
unfolding literal_at quoted_at
quoted_again t rest u p q =
    ap (λ (bs : List ℕ). closed_at false bs >>= λ x. text_of x.0 >>= λ w. Some (w, x.1)) (append_assoc (doubled t) (39 ∷ []) rest)
    ∙ rw (closed_again t rest p q, is_utf8-from_IsUtf8 t u) refl

-- ---- hexadecimal digits

decoded_ok : (r : Result (List ℕ) FromHexError) (b : List ℕ) → decoded r ≡ Some b → r ≡ Ok b
decoded_ok (Ok x) b e = ap Ok (some_is x b e)
decoded_ok (Err f) b e = absurd cc

not_quote : (c : ℕ) → not (c == 39) ≡ false → c ≡ 39
not_quote c e = elim (told (c == 39)) [ inl q ↦ eqb-true c 39 q | inr n ↦ absurd (contradiction (c == 39) e n) ]
  where
    contradiction : (b : Bool) → not b ≡ false → b ≡ false → ⊥
    contradiction true e n = absurd cc
    contradiction false e n = absurd cc

digits_take : (bs : List ℕ) (x : List ℕ × List ℕ) → digits_at bs ≡ Some x → (digits : List ℕ) × (bs ≡ digits ++ 39 ∷ x.1) × (decode_of digits ≡ Ok x.0)
unfolding digits_at
digits_take bs x e =
    let n = prefix_len (λ c. not (c == 39)) bs in
    let p = provided (ltb n (length bs)) (decoded (decode_of (take n bs)) >>= λ b. Some (b, drop (n + 1) bs)) x e in
    let a = bind_some (decoded (decode_of (take n bs))) (λ b. Some (b, drop (n + 1) bs)) x p.1 in
    let lt : n < length bs = ltb-true _ _ p.0 in
    let quote : get_or bs n 0 ≡ 39 = not_quote _ (prefix_len_stops (λ c. not (c == 39)) bs 0 lt) in
    let split : bs ≡ take n bs ++ (get_or bs n 0 ∷ drop (n + 1) bs) = sym (take-append-drop n bs) ∙ ap (λ (t : List ℕ). take n bs ++ t) (drop_more bs n 0 lt) in
    subst (λ (y : List ℕ × List ℕ). (digits : List ℕ) × (bs ≡ digits ++ 39 ∷ y.1) × (decode_of digits ≡ Ok y.0)) (some_is (pair a.0 (drop (n + 1) bs)) x a.2)
    (take n bs, split ∙ ap (λ (c : ℕ). take n bs ++ (c ∷ drop (n + 1) bs)) quote, decoded_ok _ _ a.1)

hex_is_no_quote : (c : ℕ) → is_hex_digit c ≡ true → not (c == 39) ≡ true
hex_is_no_quote c h =
    elim (told (c == 39)) [ inl q ↦ absurd (never (subst (λ (d : ℕ). is_hex_digit d ≡ true) (eqb-true c 39 q) h)) | inr n ↦ ap not n ]
  where
    never : is_hex_digit 39 ≡ true → ⊥
    never e = absurd cc

no_quotes : (ds : List ℕ) → AllByRecursion (λ c. is_hex_digit c ≡ true) ds → AllByRecursion (λ c. not (c == 39) ≡ true) ds
no_quotes [] h = tt
no_quotes (d ∷ ds) h = (hex_is_no_quote d h.0, no_quotes ds h.1)

digits_again : (digits b rest : List ℕ) → decode_of digits ≡ Ok b → digits_at (digits ++ 39 ∷ rest) ≡ Some (b, rest)
unfolding digits_at
digits_again digits b rest e =
    let bs = digits ++ 39 ∷ rest in
    let len : prefix_len (λ c. not (c == 39)) bs ≡ length digits = all_pass (λ c. not (c == 39)) digits (39 ∷ rest) (no_quotes digits (recursion_from_All _ digits (decode_of-ok digits b e).1)) refl in
    let inside : ltb (length digits) (length bs) ≡ true = lt-ltb _ _ (omega (arith, length-append digits (39 ∷ rest))) in
    rw (len, inside, take_at digits (39 ∷ rest) (length digits) refl, e, behind digits rest) refl
  where
    behind : (ds rest : List ℕ) → drop (length ds + 1) (ds ++ 39 ∷ rest) ≡ rest
    behind [] rest = refl
    behind (d ∷ ds) rest = let one : length (d ∷ ds) + 1 ≡ suc (length ds + 1) = omega arith in rw one (behind ds rest)

hex_takes : (bs : List ℕ) (x : List ℕ × List ℕ) → hex_at bs ≡ Some x → (text : List ℕ) × (bs ≡ text ++ x.1) × IsBlobLiteral x.0 text
unfolding hex_at
hex_takes [] x e = absurd cc
hex_takes (c ∷ []) x e = absurd cc
hex_takes (c ∷ q ∷ bs) x e =
    let p = provided ((c == 88 || c == 120) && q == 39) (digits_at bs) x e in
    let tests = both (c == 88 || c == 120) (q == 39) p.0 in
    let d = digits_take bs x p.1 in
    let whole : c ∷ q ∷ bs ≡ (c ∷ 39 ∷ d.0 ++ 39 ∷ []) ++ x.1 = ap (λ (d : ℕ). c ∷ d ∷ bs) (eqb-true q 39 tests.1) ∙ ap (λ (t : List ℕ). c ∷ 39 ∷ t) (d.1 ∙ sym (append_assoc d.0 (39 ∷ []) x.1)) in
    (c ∷ 39 ∷ d.0 ++ 39 ∷ [], whole, (c, d.0, either_x c tests.0, refl, d.2))
  where
    either_x : (c : ℕ) → (c == 88 || c == 120) ≡ true → (c ≡ 88) ⊎ (c ≡ 120)
    either_x c h = elim (told (c == 88)) [ inl yes_88 ↦ inl (eqb-true c 88 yes_88) | inr not_88 ↦ inr (eqb-true c 120 (rw not_88 at h)) ]

hex_again : (text b rest : List ℕ) → IsBlobLiteral b text → hex_at (text ++ rest) ≡ Some (b, rest)
unfolding hex_at
hex_again text b rest is =
    let x = is.0 in
    let ds = is.1 in
    ap (λ (t : List ℕ). hex_at (t ++ rest)) is.3
    ∙ ap (λ (t : List ℕ). hex_at (x ∷ 39 ∷ t)) (append_assoc ds (39 ∷ []) rest)
    ∙ rw (is_x x is.2) (digits_again ds b rest is.4)
  where
    is_x : (x : ℕ) → (x ≡ 88) ⊎ (x ≡ 120) → (x == 88 || x == 120) ≡ true
    is_x x (inl e) = rw e refl
    is_x x (inr e) = rw e refl

-- ---- integers

no_digit : (ds : List ℕ) → is_ascii_digit (get_or (drop (prefix_len is_ascii_digit ds) ds) 0 0) ≡ false
no_digit ds =
    let n = prefix_len is_ascii_digit ds in
    elim (cases_lt n (length ds)) [
      | inl lt ↦ (let same : n + 0 ≡ n = omega arith in rw (get_or-drop, same) (prefix_len_stops is_ascii_digit ds 0 lt))
      | inr le ↦ rw (drop_all n ds le) refl
    ]

stops : (bs : List ℕ) → is_ascii_digit (get_or (drop (numeral_len bs) bs) 0 0) ≡ false
stops [] = refl
stops (c ∷ cs) =
    elim (told (c == 45)) [
      | inl minus ↦ rw minus (let one : 1 + prefix_len is_ascii_digit cs ≡ suc (prefix_len is_ascii_digit cs) = omega arith in rw one (no_digit cs))
      | inr other ↦ rw other (no_digit (c ∷ cs))
    ]

fits_of_text : (t : List ℕ) (n : ℤ) → int_of_text t ≡ Some n → FitsSigned w64 n
unfolding int_of_text
fits_of_text t n e =
    let p = provided (is_numeral t && fits_i64 (signed_digits_value 10 t)) (Some (signed_digits_value 10 t)) n e in
    subst (FitsSigned w64) (some_is _ _ p.1) (fits_from _ (both (is_numeral t) (fits_i64 (signed_digits_value 10 t)) p.0).1)

integer_takes : (bs : List ℕ) (x : Value × List ℕ) → integer_at bs ≡ Some x → Opens bs x.0 x.1
unfolding integer_at
integer_takes bs x e =
    let len = numeral_len bs in
    let numeral = take len bs in
    let p = provided (is_utf8 numeral) (int_of_text numeral >>= λ n. cond (bytes_eq (signed_decimal n) numeral) (Some (Int n, drop len bs)) None) x e in
    let b = bind_some (int_of_text numeral) (λ n. cond (bytes_eq (signed_decimal n) numeral) (Some (Int n, drop len bs)) None) x p.1 in
    let q = provided (bytes_eq (signed_decimal b.0) numeral) (Some (Int b.0, drop len bs)) x b.2 in
    subst (λ (y : Value × List ℕ). Opens bs y.0 y.1) (some_is (pair (Int b.0) (drop len bs)) x q.1)
    (numeral, sym (take-append-drop len bs), (sym ((bytes_eq-Decides (signed_decimal b.0) numeral).0 q.0), fits_of_text numeral b.0 b.1, stops bs))

ascii_digits : (ds : List ℕ) → AllDigits 10 ds → AllByRecursion (λ c. is_ascii_digit c ≡ true) ds
ascii_digits [] h = tt
ascii_digits (d ∷ ds) h = let r = digit_from_value d h.0 in (rw (le-leb _ _ r.0, le-leb _ _ r.1) refl, ascii_digits ds h.1)

-- the text of a number in digits has no sign
no_sign : (ds rest : List ℕ) → IsNumeral 10 ds → (starts_with_minus (ds ++ rest) ≡ false) × (without_leading_sign ds ≡ ds) × (signed_digits_value 10 ds ≡ pos (digits_value 10 ds))
no_sign [] rest h = absurd (omega arith)
no_sign (d ∷ ds) rest h =
    let r = digit_from_value d h.1.0 in
    let no_minus : (d == 45) ≡ false = other d 45 (omega arith) in
    let no_plus : (d == 43) ≡ false = other d 43 (omega arith) in
    (no_minus, rw (no_minus, no_plus) refl, rw (no_minus, no_plus) refl)

spelled_again : (n : ℤ) (rest : List ℕ) → FitsSigned w64 n → IsUtf8 (signed_decimal n) → numeral_len (signed_decimal n ++ rest) ≡ length (signed_decimal n) → int_of_text (signed_decimal n) ≡ Some n
    → integer_at (signed_decimal n ++ rest) ≡ Some (Int n, rest)
unfolding integer_at
spelled_again n rest fits u len int =
    let t = signed_decimal n in
    rw (len, take_at t rest (length t) refl, is_utf8-from_IsUtf8 t u, int, (bytes_eq-Decides t t).1 refl, drop_at t rest (length t) refl) refl

int_of_numeral : (t : List ℕ) (n : ℤ) → IsNumeral 10 (without_leading_sign t) → FitsSigned w64 n → signed_digits_value 10 t ≡ n → int_of_text t ≡ Some n
unfolding int_of_text
int_of_numeral t n h fits e = rw (numeral_yes t h, e, fits_yes n fits) refl

integer_again : (n : ℤ) (rest : List ℕ) → FitsSigned w64 n → is_ascii_digit (get_or rest 0 0) ≡ false → integer_at (signed_decimal n ++ rest) ≡ Some (Int n, rest)
integer_again (pos n) rest fits stop =
    let small : n < 2 ^ 64 = omega (arith, fits.sfits) in
    let num = decimal_is_IsNumeral n small in
    let sign = no_sign (decimal n) rest num.0 in
    let len : prefix_len is_ascii_digit (decimal n ++ rest) ≡ length (decimal n) = all_pass is_ascii_digit (decimal n) rest (ascii_digits _ num.0.1) (none_passes is_ascii_digit rest stop) in
    spelled_again (pos n) rest fits (IsUtf8-from_ascii _ (IsAscii-signed (pos n) (omega (arith, fits.sfits)))) (rw (sign.0, len) refl)
    (int_of_numeral (decimal n) (pos n) (rw sign.1 num.0) fits (sign.2 ∙ ap pos num.1))
integer_again (negsuc n) rest fits stop =
    let small : suc n < 2 ^ 64 = omega (arith, fits.sfits) in
    let num = decimal_is_IsNumeral (suc n) small in
    let len : prefix_len is_ascii_digit (decimal (suc n) ++ rest) ≡ length (decimal (suc n)) = all_pass is_ascii_digit (decimal (suc n)) rest (ascii_digits _ num.0.1) (none_passes is_ascii_digit rest stop) in
    spelled_again (negsuc n) rest fits (IsUtf8-from_ascii _ (IsAscii-signed (negsuc n) (omega (arith, fits.sfits)))) (omega (arith, len))
    (int_of_numeral (signed_decimal (negsuc n)) (negsuc n) num.0 fits (rw num.1 refl))

-- ---- any literal

blob_takes : (bs : List ℕ) (x : Value × List ℕ) → blob_at bs ≡ Some x → Opens bs x.0 x.1
unfolding blob_at
blob_takes bs x e =
    let b = bind_some (hex_at bs) (λ b. Some (Blob b.0, b.1)) x e in
    let h = hex_takes bs b.0 b.1 in
    subst (λ (y : Value × List ℕ). Opens bs y.0 y.1) (some_is (pair (Blob b.0.0) b.0.1) x b.2) (h.0, h.1, h.2)

regroup : (p t q after : List ℕ) → p ++ (t ++ (q ++ after)) ≡ ((p ++ t) ++ q) ++ after
regroup p t q after = simp append_assoc

abbrev cast_word : List ℕ
cast_word = codes "CAST("

abbrev type_word : List ℕ
type_word = codes " AS TEXT)"

cast_takes : (bs : List ℕ) (x : Value × List ℕ) → cast_at bs ≡ Some x → Opens bs x.0 x.1
unfolding cast_at
cast_takes bs x e =
    let a = bind_some (after_prefix cast_word bs) (λ rest. hex_at rest >>= λ t. after_prefix type_word t.1 >>= λ after. text_of t.0 >>= λ v. Some (v, after)) x e in
    let b = bind_some (hex_at a.0) (λ t. after_prefix type_word t.1 >>= λ after. text_of t.0 >>= λ v. Some (v, after)) x a.2 in
    let d = bind_some (after_prefix type_word b.0.1) (λ after. text_of b.0.0 >>= λ v. Some (v, after)) x b.2 in
    let f = bind_some (text_of b.0.0) (λ v. Some (v, d.0)) x d.2 in
    let h = hex_takes a.0 b.0 b.1 in
    let text = text_takes b.0.0 f.0 f.1 in
    let whole : bs ≡ ((cast_word ++ h.0) ++ type_word) ++ d.0 = prefix_takes cast_word bs a.0 a.1 ∙ ap (λ (t : List ℕ). cast_word ++ t) (h.1 ∙ ap (λ (t : List ℕ). h.0 ++ t) (prefix_takes type_word b.0.1 d.0 d.1)) ∙ regroup cast_word h.0 type_word d.0 in
    subst (λ (y : Value × List ℕ). Opens bs y.0 y.1) (ap (λ (w : Value). pair w d.0) text.1 ∙ some_is (pair f.0 d.0) x f.2)
    ((cast_word ++ h.0) ++ type_word, whole, (text.0, inr (h.0, h.2, refl)))

null_takes : (bs : List ℕ) (x : Value × List ℕ) → null_at bs ≡ Some x → Opens bs x.0 x.1
unfolding null_at
null_takes bs x e =
    let a = bind_some (after_prefix (codes "NULL") bs) (λ rest. Some (Null, rest)) x e in
    subst (λ (y : Value × List ℕ). Opens bs y.0 y.1) (some_is (pair Null a.0) x a.2) (codes "NULL", prefix_takes (codes "NULL") bs a.0 a.1, refl)

pub literal_takes : (bs : List ℕ) (x : Value × List ℕ) → literal_at bs ≡ Some x → Opens bs x.0 x.1
unfolding literal_at
literal_takes [] x e = absurd cc
literal_takes (c ∷ cs) x e =
    elim (chosen (c == 39) (quoted_at cs) _ _ e) [
      | inl quote ↦ subst (λ (d : ℕ). Opens (d ∷ cs) x.0 x.1) (sym (eqb-true c 39 quote.0)) (quoted_takes cs x.1 x.0 quote.1)
      | inr no_quote ↦ elim (chosen (c == 88 || c == 120) (blob_at (c ∷ cs)) _ _ no_quote.1) [
        | inl blob ↦ blob_takes (c ∷ cs) x blob.1
        | inr no_blob ↦ elim (chosen (c == 67) (cast_at (c ∷ cs)) _ _ no_blob.1) [
          | inl cast ↦ cast_takes (c ∷ cs) x cast.1
          | inr no_cast ↦ elim (chosen (c == 78) (null_at (c ∷ cs)) _ _ no_cast.1) [
            | inl null ↦ null_takes (c ∷ cs) x null.1
            | inr int ↦ integer_takes (c ∷ cs) x int.1
          ]
        ]
      ]
    ]

-- a byte with which only an integer begins
record OpensNumber (c : ℕ) : Type 0 where
  low : 44 < c
  high : c < 58

number_first : (c : ℕ) (cs : List ℕ) → OpensNumber c → literal_at (c ∷ cs) ≡ integer_at (c ∷ cs)
unfolding literal_at
number_first c cs h = rw (other c 39 (omega arith), other c 88 (omega arith), other c 120 (omega arith), other c 67 (omega arith), other c 78 (omega arith)) refl

digit_first : (ds rest : List ℕ) → IsNumeral 10 ds → literal_at (ds ++ rest) ≡ integer_at (ds ++ rest)
digit_first [] rest h = absurd (omega arith)
digit_first (d ∷ ds) rest h = let r = digit_from_value d h.1.0 in number_first d (ds ++ rest) (record { low = omega arith; high = omega arith })

sign_or_digit_first : (n : ℤ) (rest : List ℕ) → FitsSigned w64 n → literal_at (signed_decimal n ++ rest) ≡ integer_at (signed_decimal n ++ rest)
sign_or_digit_first (pos n) rest fits = digit_first (decimal n) rest (decimal_is_IsNumeral n (omega (arith, fits.sfits))).0
sign_or_digit_first (negsuc n) rest fits = number_first 45 (decimal (suc n) ++ rest) (record { low = omega arith; high = omega arith })

x_first : (x : ℕ) (cs : List ℕ) → (x ≡ 88) ⊎ (x ≡ 120) → literal_at (x ∷ cs) ≡ blob_at (x ∷ cs)
unfolding literal_at
x_first x cs (inl e) = rw e refl
x_first x cs (inr e) = rw e refl

blob_again : (b text rest : List ℕ) → IsBlobLiteral b text → literal_at (text ++ rest) ≡ Some (Blob b, rest)
unfolding blob_at
blob_again b text rest is =
    let first = x_first is.0 (39 ∷ (is.1 ++ 39 ∷ []) ++ rest) is.2 in
    ap (λ (t : List ℕ). literal_at (t ++ rest)) is.3 ∙ first ∙ ap (λ (t : List ℕ). blob_at (t ++ rest)) (sym is.3) ∙ rw (hex_again text b rest is) refl

cast_again : (t text rest : List ℕ) → IsUtf8 t → IsCastLiteral t text → literal_at (text ++ rest) ≡ Some (Text t, rest)
unfolding literal_at cast_at
cast_again t text rest u is =
    let whole : text ++ rest ≡ cast_word ++ (is.0 ++ (type_word ++ rest)) = ap (λ (x : List ℕ). x ++ rest) is.2 ∙ sym (regroup cast_word is.0 type_word rest) in
    ap literal_at whole ∙ rw (prefix_again cast_word (is.0 ++ (type_word ++ rest)), hex_again is.0 t (type_word ++ rest) is.1, prefix_again type_word rest, is_utf8-from_IsUtf8 t u) refl

null_again : (rest : List ℕ) → literal_at (codes "NULL" ++ rest) ≡ Some (Null, rest)
unfolding literal_at null_at
null_again rest = rw (prefix_again (codes "NULL") rest) refl

pub literal_again : (v : Value) (text rest : List ℕ) → IsLiteral v text rest → literal_at (text ++ rest) ≡ Some (v, rest)
literal_again Null text rest is = ap (λ (t : List ℕ). literal_at (t ++ rest)) is ∙ null_again rest
literal_again (Int n) text rest is = ap (λ (t : List ℕ). literal_at (t ++ rest)) is.0 ∙ sign_or_digit_first n rest is.1 ∙ integer_again n rest is.1 is.2
literal_again (Text t) text rest is =
    elim is.1 [
      | inl plain ↦ ap (λ (x : List ℕ). literal_at (x ++ rest)) plain.1 ∙ quoted_again t rest is.0 plain.0 plain.2
      | inr cast ↦ cast_again t text rest is.0 cast
    ]
literal_again (Blob b) text rest is = blob_again b text rest is
