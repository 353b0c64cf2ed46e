-- What is read at the front is the longest token.
use Rattle.std.proofs.Common.{◌≡◌, ◌≢◌, ◌⊎◌, inl, inr, ℕ, zero, suc, ◌+◌, ◌-◌, ◌%◌, ◌<◌, ◌≤◌, ◌==◌, Bool, true, false, cond, not, ltb, ◌&&◌, ◌||◌, IsTrue, List, [], ◌∷◌, ◌++◌, length, take, drop, refl, sym, ap, subst, ◌∙◌, append_assoc, arith}
use Rattle.std.specs.List.{prefix_len, list_all}
use Rattle.std.specs.Char.{is_ascii_digit, is_ascii_hexdigit}
use Rattle.std.proofs.lemmas.Bool.{cases_lt, eqb-true, eq-eqb}
use Rattle.std.proofs.lemmas.List.{length-append, length-take, take-append-drop}
use Rattle.cr_lex.specs.declared.token.TokenKind.{TokenKind}
use Rattle.cr_lex.specs.declared.token.TokenKind.TheVariants as k
use Rattle.cr_lex.specs.Texts.{is_start, is_more, is_sign, is_pair}
use Rattle.cr_lex.specs.Tokens.{Each, IsNumber, IsPointed, IsX, IsHex, IsQuoted, IsName, IsOpen, is_legal, begins_nothing, IsSpoilt, IsToken}
use Rattle.cr_lex.specs.Reading.{first_is, number_at, number_token, quoted_token, bracketed_token, blob_token, sign_token, token_at}
use Rattle.cr_lex.proofs.Parts.{told, both, either, contradiction, other_than, by_cases, run, run_least, take_front, drop_front}
use Rattle.cr_lex.proofs.Classes.{sign_is, pair_is, start_no_digit, not_one_of}
use Rattle.cr_lex.proofs.Numbers.{Begins, OfKind, Covers, some_run, number_took, exponent_some, some_length, int_is_covered, real_is_covered}
use Rattle.cr_lex.proofs.Quoting.{Front, Quotes, legal_kind, quoted_front, quoted_covered, unquoted_covered, bracketed_front, bracketed_covered, open_bracket_covered, blob_front, blob_covered, open_blob_covered}

-- ---- it is a token

texts : Quotes 39 k.Text
texts = record { not_nul = refl; lawful = λ w rest q l. (q, l); unlawful = λ w rest q l. inr (inr (inl (inr q, l))); unclosed = λ w q. (inl q, refl) }

names : Quotes 34 k.Ident
names = record { not_nul = refl; lawful = λ w rest q l. inr (inl q, l); unlawful = λ w rest q l. inr (inr (inl (inl (inl q), l))); unclosed = λ w q. (inr (inl q), refl) }

back_quoted : Quotes 96 k.Ident
back_quoted = record { not_nul = refl; lawful = λ w rest q l. inr (inr (inl q), l); unlawful = λ w rest q l. inr (inr (inl (inl (inr (inl q)), l))); unclosed = λ w q. (inr (inr (inl q)), refl) }

number_some : (w : List ℕ) → IsNumber w → 0 < length w
number_some w (inl (inl d)) = some_length w d.1
number_some w (inl (inr (digits, each, ne, is))) = rw is (omega arith)
number_some w (inr (inl (whole, part, a, b, ne, is))) = omega (arith, ap length is, length-append whole (46 ∷ part))
number_some w (inr (inr (mantissa, x, m, e, is))) = omega (arith, ap length is, length-append mantissa x, exponent_some x e)

kind_number : (kind : TokenKind) (w rest : List ℕ) → OfKind kind w → IsNumber w × IsToken kind w rest
kind_number kind w rest (inl (e, int)) = (inl int, subst (λ (x : TokenKind). IsToken x w rest) (sym e) int)
kind_number kind w rest (inr (e, real)) = (inr real, subst (λ (x : TokenKind). IsToken x w rest) (sym e) real)

fits : (w r : List ℕ) → IsNumber w → length w ≤ (number_at (w ++ r)).1
fits w r (inl int) = elim (int_is_covered w r int) [ inl less ↦ omega (arith, less) | inr same ↦ omega (arith, same.0) ]
fits w r (inr real) = elim (real_is_covered w r real) [ inl less ↦ omega (arith, less) | inr same ↦ omega (arith, same.0) ]

no_length : (w : List ℕ) → length w ≡ 0 → w ≡ []
no_length [] e = refl
no_length (c ∷ cs) e = absurd (omega (arith, e))

number_front : (bs : List ℕ) → Begins bs → Front (number_token bs) bs
unfolding number_token
number_front bs b =
    let t = number_took bs b in
    let w = t.0 in
    let rest = t.1 in
    let is = kind_number (number_at bs).0 w rest t.4 in
    let some = number_some w is.0 in
    let r = run is_more rest in
    let behind : drop (number_at bs).1 bs ≡ rest = ap (λ (n : ℕ). drop n bs) t.3 ∙ ap (drop (length w)) t.2 ∙ drop_front w rest in
    let tail : prefix_len is_more (drop (number_at bs).1 bs) ≡ length r.part = ap (prefix_len is_more) behind ∙ r.len in
    by_cases (λ (x : TokenKind × ℕ). Front x bs) (prefix_len is_more (drop (number_at bs).1 bs) == 0) (number_at bs) (k.Illegal, (number_at bs).1 + prefix_len is_more (drop (number_at bs).1 bs))
    (λ z. (w, rest, t.2, t.3, some, is.1))
    (λ z.
    let whole : bs ≡ (w ++ r.part) ++ r.rest = t.2 ∙ ap (λ (x : List ℕ). w ++ x) r.split ∙ sym (append_assoc w r.part r.rest) in
    let long = length-append w r.part in (
      w ++ r.part,
      r.rest,
      whole,
      omega (arith, t.3, tail, long),
      omega (arith, some, long),
      inl (
        w,
        r.part,
        is.0,
        r.each,
        refl,
        λ number.
            (let le : length (w ++ r.part) ≤ (number_at bs).1 = subst (λ (x : List ℕ). length (w ++ r.part) ≤ (number_at x).1) (sym whole) (fits (w ++ r.part) r.rest number) in
            let none : prefix_len is_more (drop (number_at bs).1 bs) ≡ 0 = omega (arith, le, long, t.3, tail) in
            contradiction (prefix_len is_more (drop (number_at bs).1 bs) == 0) (eq-eqb _ 0 none) z),
      ),
    ))

blob_case : (c : ℕ) (cs : List ℕ) → ((c == 120 || c == 88) && first_is (λ q. q == 39) cs) ≡ true → Front (blob_token (drop 1 cs)) (c ∷ cs)
blob_case c [] e = absurd (let t = both (c == 120 || c == 88) false e in let f = t.1 in cc)
blob_case c (q ∷ cs) e =
    let t = both (c == 120 || c == 88) (q == 39) e in
    subst (λ (d : ℕ). Front (blob_token cs) (c ∷ d ∷ cs)) (sym (eqb-true q 39 t.1)) (blob_front c cs t.0)

number_begins : (c : ℕ) (cs : List ℕ) → (is_ascii_digit c || (c == 46 && first_is is_ascii_digit cs)) ≡ true → Begins (c ∷ cs)
number_begins c cs e = elim (either (is_ascii_digit c) (c == 46 && first_is is_ascii_digit cs) e) [
  | inl digit ↦ inl digit
  | inr point ↦ (let t = both (c == 46) (first_is is_ascii_digit cs) point in inr (cs, ap (λ (d : ℕ). d ∷ cs) (eqb-true c 46 t.0), t.1))
]

word_front : (c : ℕ) (cs : List ℕ) → is_start c ≡ true → Front (k.Ident, 1 + prefix_len is_more cs) (c ∷ cs)
word_front c cs e = let r = run is_more cs in
    (c ∷ r.part, r.rest, ap (λ (t : List ℕ). c ∷ t) r.split, omega (arith, r.len), omega arith, inl (c, r.part, e, r.each, refl))

param_front : (c : ℕ) (cs : List ℕ) → c ≡ 63 → Front (k.Param, 1 + prefix_len is_ascii_digit cs) (c ∷ cs)
param_front c cs e = let r = run is_ascii_digit cs in
    (c ∷ r.part, r.rest, ap (λ (t : List ℕ). c ∷ t) r.split, omega (arith, r.len), omega arith, (r.part, r.each, ap (λ (d : ℕ). d ∷ r.part) e))

one_front : (c : ℕ) (cs : List ℕ) → (is_sign c ≡ false → IsTrue (begins_nothing c)) → Front (cond (is_sign c) (k.Op, 1) (k.Illegal, 1)) (c ∷ cs)
one_front c cs nothing = by_cases (λ (x : TokenKind × ℕ). Front x (c ∷ cs)) (is_sign c) (k.Op, 1) (k.Illegal, 1)
    (λ e. (c ∷ [], cs, refl, refl, omega arith, inl (c, e, refl)))
    (λ e. (c ∷ [], cs, refl, refl, omega arith, inr (inr (inr (c, nothing e, refl)))))

sign_front : (c : ℕ) (cs : List ℕ) → (is_sign c ≡ false → IsTrue (begins_nothing c)) → Front (sign_token (c ∷ cs)) (c ∷ cs)
unfolding sign_token
sign_front c [] nothing = one_front c [] nothing
sign_front c (d ∷ cs) nothing = by_cases (λ (x : TokenKind × ℕ). Front x (c ∷ d ∷ cs)) (is_pair c d) (k.Op, 2) (cond (is_sign c) (k.Op, 1) (k.Illegal, 1))
    (λ e. (c ∷ d ∷ [], cs, refl, refl, omega arith, inr (c, d, e, refl)))
    (λ e. one_front c (d ∷ cs) nothing)

neither : (a b : Bool) → (a || b) ≡ false → (a ≡ false) × (b ≡ false)
neither true b e = absurd cc
neither false b e = (refl, e)

token_front : (c : ℕ) (cs : List ℕ) → Front (token_at (c ∷ cs)) (c ∷ cs)
unfolding token_at
token_front c cs =
    by_cases (λ (x : TokenKind × ℕ). Front x (c ∷ cs)) (c == 39) _ _ (λ e. subst (λ (d : ℕ). Front (quoted_token 39 k.Text cs) (d ∷ cs)) (sym (eqb-true c 39 e)) (quoted_front 39 k.Text texts cs)) (λ not_39.
    by_cases (λ (x : TokenKind × ℕ). Front x (c ∷ cs)) (c == 34 || c == 96) _ _ (λ e. elim (either (c == 34) (c == 96) e) [
      | inl double ↦ subst (λ (d : ℕ). Front (quoted_token d k.Ident cs) (d ∷ cs)) (sym (eqb-true c 34 double)) (quoted_front 34 k.Ident names cs)
      | inr back ↦ subst (λ (d : ℕ). Front (quoted_token d k.Ident cs) (d ∷ cs)) (sym (eqb-true c 96 back)) (quoted_front 96 k.Ident back_quoted cs)
    ]) (λ no_quote.
    by_cases (λ (x : TokenKind × ℕ). Front x (c ∷ cs)) (c == 91) _ _ (λ e. subst (λ (d : ℕ). Front (bracketed_token cs) (d ∷ cs)) (sym (eqb-true c 91 e)) (bracketed_front cs)) (λ not_91.
    by_cases (λ (x : TokenKind × ℕ). Front x (c ∷ cs)) ((c == 120 || c == 88) && first_is (λ q. q == 39) cs) _ _ (λ e. blob_case c cs e) (λ no_blob.
    by_cases (λ (x : TokenKind × ℕ). Front x (c ∷ cs)) (is_ascii_digit c || (c == 46 && first_is is_ascii_digit cs)) _ _ (λ e. number_front (c ∷ cs) (number_begins c cs e)) (λ no_number.
    by_cases (λ (x : TokenKind × ℕ). Front x (c ∷ cs)) (is_start c) _ _ (λ e. word_front c cs e) (λ no_word.
    by_cases (λ (x : TokenKind × ℕ). Front x (c ∷ cs)) (c == 63) _ _ (λ e. param_front c cs (eqb-true c 63 e)) (λ not_63.
    sign_front c cs (λ no_sign.
    let quotes = neither (c == 34) (c == 96) no_quote in
    let digit = (neither (is_ascii_digit c) (c == 46 && first_is is_ascii_digit cs) no_number).0 in
    rw (no_word, digit, no_sign, not_63, not_39, quotes.0, quotes.1, not_91) refl))))))))

front_is : (x : TokenKind × ℕ) (bs : List ℕ) → Front x bs → (0 < x.1) × (x.1 ≤ length bs) × IsToken x.0 (take x.1 bs) (drop x.1 bs)
front_is x bs (w, rest, split, len, some, is) = (
  omega (arith, len, some),
  omega (arith, len, ap length split, length-append w rest),
  rw (split, len) (rw (take_front w rest, drop_front w rest) is),
)

pub token_spelled : (bs : List ℕ) → 0 < length bs → (0 < (token_at bs).1) × ((token_at bs).1 ≤ length bs) × IsToken (token_at bs).0 (take (token_at bs).1 bs) (drop (token_at bs).1 bs)
token_spelled [] h = absurd (omega (arith, h))
token_spelled (c ∷ cs) h = front_is (token_at (c ∷ cs)) (c ∷ cs) (token_front c cs)

-- ---- and the longest

covers_same : (kind : TokenKind) (n m : ℕ) → n ≤ m → Covers (kind, m) kind n
covers_same kind n m le = elim (told (n == m)) [
  | inl same ↦ inr (eqb-true n m same, refl)
  | inr other ↦ (let ne : n ≢ m = λ e. contradiction (n == m) (eq-eqb n m e) other in inl (omega (arith, le, ne)))
]

at_most : (x : TokenKind × ℕ) (kind : TokenKind) (n : ℕ) → Covers x kind n → n ≤ x.1
at_most x kind n (inl less) = omega (arith, less)
at_most x kind n (inr same) = omega (arith, same.0)

not_zero : (n : ℕ) → (n == 0) ≡ false → 0 < n
not_zero n e = let ne : n ≢ 0 = λ z. contradiction (n == 0) (eq-eqb n 0 z) e in omega (arith, ne)

-- ---- numbers

covers_number : (bs : List ℕ) (kind : TokenKind) (n : ℕ) → Covers (number_at bs) kind n → Covers (number_token bs) kind n
unfolding number_token
covers_number bs kind n h =
    let tail = prefix_len is_more (drop (number_at bs).1 bs) in
    by_cases (λ (x : TokenKind × ℕ). Covers x kind n) (tail == 0) (number_at bs) (k.Illegal, (number_at bs).1 + tail)
    (λ z. h)
    (λ z. inl (omega (arith, at_most (number_at bs) kind n h, not_zero tail z)))

number_token_fits : (bs : List ℕ) → (number_at bs).1 ≤ (number_token bs).1
unfolding number_token
number_token_fits bs =
    let tail = prefix_len is_more (drop (number_at bs).1 bs) in
    by_cases (λ (x : TokenKind × ℕ). (number_at bs).1 ≤ x.1) (tail == 0) (number_at bs) (k.Illegal, (number_at bs).1 + tail) (λ z. omega arith) (λ z. omega arith)

number_first : (bs : List ℕ) → Begins bs → token_at bs ≡ number_token bs
unfolding token_at
number_first [] (inl e) = absurd cc
number_first (c ∷ cs) (inl e) =
    rw (other_than is_ascii_digit c 39 e refl, other_than is_ascii_digit c 34 e refl, other_than is_ascii_digit c 96 e refl, other_than is_ascii_digit c 91 e refl, other_than is_ascii_digit c 120 e refl, other_than is_ascii_digit c 88 e refl, e) refl
number_first bs (inr (rest, is, e)) = rw is (rw e refl)

first_digit : (w r : List ℕ) → Each is_ascii_digit w → w ≢ [] → first_is is_ascii_digit (w ++ r) ≡ true
first_digit [] r each ne = absurd (ne refl)
first_digit (c ∷ cs) r each ne = (both (is_ascii_digit c) (list_all is_ascii_digit cs) each).0

pointed_begins : (whole part r : List ℕ) → Each is_ascii_digit whole → Each is_ascii_digit part → whole ++ part ≢ [] → Begins (whole ++ 46 ∷ (part ++ r))
pointed_begins [] part r a b ne = inr (part ++ r, refl, first_digit part r b ne)
pointed_begins (c ∷ cs) part r a b ne = inl (both (is_ascii_digit c) (list_all is_ascii_digit cs) a).0

is_pointed_begins : (w r : List ℕ) → IsPointed w → Begins (w ++ r)
is_pointed_begins w r (whole, part, a, b, ne, is) = rw (is, append_assoc whole (46 ∷ part) r) (pointed_begins whole part r a b ne)

begins_number : (w r : List ℕ) → IsNumber w → Begins (w ++ r)
begins_number w r (inl (inl d)) = inl (first_digit w r d.0 d.1)
begins_number w r (inl (inr (digits, each, ne, is))) = rw is (inl refl)
begins_number w r (inr (inl p)) = is_pointed_begins w r p
begins_number w r (inr (inr (mantissa, x, inl p, e, is))) = rw (is, append_assoc mantissa x r) (is_pointed_begins mantissa (x ++ r) p)
begins_number w r (inr (inr (mantissa, x, inr d, e, is))) = rw (is, append_assoc mantissa x r) (inl (first_digit mantissa (x ++ r) d.0 d.1))

number_covered : (kind : TokenKind) (w r : List ℕ) → IsNumber w → Covers (number_at (w ++ r)) kind (length w) → Covers (token_at (w ++ r)) kind (length w)
number_covered kind w r is h =
    subst (λ (x : TokenKind × ℕ). Covers x kind (length w)) (sym (number_first (w ++ r) (begins_number w r is))) (covers_number (w ++ r) kind (length w) h)

-- ---- a number that a word goes on with

each_drop : (p : ℕ → Bool) (j : ℕ) (w : List ℕ) → Each p w → Each p (drop j w)
each_drop p zero w e = e
each_drop p (suc j) [] e = refl
each_drop p (suc j) (c ∷ cs) e = each_drop p j cs (both (p c) (list_all p cs) e).1

drop_part : (j : ℕ) (w r : List ℕ) → j ≤ length w → (drop j (w ++ r) ≡ drop j w ++ r) × (length (drop j w) + j ≡ length w)
drop_part zero w r le = (refl, omega arith)
drop_part (suc j) [] r le = absurd (omega (arith, le))
drop_part (suc j) (c ∷ cs) r le = let more = drop_part j cs r (omega (arith, le)) in (more.0, omega (arith, more.1))

drop_past : (a b : List ℕ) (j : ℕ) → drop (length a + j) (a ++ b) ≡ drop j b
drop_past [] b j = let e : 0 + j ≡ j = omega arith in rw e refl
drop_past (c ∷ cs) b j = let e : suc (length cs) + j ≡ suc (length cs + j) = omega arith in rw e (drop_past cs b j)

-- wherever in the tail the number ends, the word goes on to the tail's end
tail_reached : (number tail r : List ℕ) (l : ℕ) → Each is_more tail → length number ≤ l → length (number ++ tail) ≤ l + prefix_len is_more (drop l ((number ++ tail) ++ r))
tail_reached number tail r l each le = elim (cases_lt l (length (number ++ tail))) [
  | inl lt ↦ (
      let j = l - length number in
      let long = length-append number tail in
      let l_is : l ≡ length number + j = omega (arith, le) in
      let part = drop_part j tail r (omega (arith, le, lt, long)) in
      let behind : drop l ((number ++ tail) ++ r) ≡ drop j tail ++ r = ap (drop l) (append_assoc number tail r) ∙ ap (λ (n : ℕ). drop n (number ++ (tail ++ r))) l_is ∙ drop_past number (tail ++ r) j ∙ part.0 in
      let reach = run_least is_more (drop j tail) r (each_drop is_more j tail each) in
      let same : prefix_len is_more (drop l ((number ++ tail) ++ r)) ≡ prefix_len is_more (drop j tail ++ r) = ap (prefix_len is_more) behind in
      omega (arith, same, reach, part.1, l_is, long))
  | inr ge ↦ omega (arith, ge)
]

same_front : (w v r s : List ℕ) → w ++ r ≡ v ++ s → length w ≡ length v → w ≡ v
same_front w v r s e len = sym (take_front w r) ∙ ap (take (length w)) e ∙ ap (λ (n : ℕ). take n (v ++ s)) len ∙ take_front v s

spoilt_covers : (bs : List ℕ) (w : List ℕ) (r : List ℕ) → bs ≡ w ++ r → Begins bs → (IsNumber w → ⊥) → length w ≤ (number_at bs).1 + prefix_len is_more (drop (number_at bs).1 bs) → Covers (number_token bs) k.Illegal (length w)
unfolding number_token
spoilt_covers bs w r split b never le =
    let tail = prefix_len is_more (drop (number_at bs).1 bs) in
    by_cases (λ (x : TokenKind × ℕ). Covers x k.Illegal (length w)) (tail == 0) (number_at bs) (k.Illegal, (number_at bs).1 + tail)
    (λ z. let zero_tail : tail ≡ 0 = eqb-true tail 0 z in
    elim (told (length w == (number_at bs).1)) [
      | inl same ↦ (
          let t = number_took bs b in
          let len : length w ≡ length t.0 = eqb-true _ _ same ∙ t.3 in
          absurd (never (subst IsNumber (sym (same_front w t.0 r t.1 (sym split ∙ t.2) len)) (kind_number (number_at bs).0 t.0 t.1 t.4).0)))
      | inr other ↦ (let ne : length w ≢ (number_at bs).1 = λ e. contradiction (length w == (number_at bs).1) (eq-eqb _ _ e) other in inl (omega (arith, le, zero_tail, ne)))
    ])
    (λ z. covers_same k.Illegal (length w) ((number_at bs).1 + tail) le)

spoilt_covered : (w r : List ℕ) → IsSpoilt w → Covers (token_at (w ++ r)) k.Illegal (length w)
spoilt_covered w r (number, tail, is, each, split, never) =
    let whole : w ++ r ≡ number ++ (tail ++ r) = ap (λ (t : List ℕ). t ++ r) split ∙ append_assoc number tail r in
    let b = subst Begins (sym whole) (begins_number number (tail ++ r) is) in
    let reach : length number ≤ (number_at (w ++ r)).1 = subst (λ (t : List ℕ). length number ≤ (number_at t).1) (sym whole) (fits number (tail ++ r) is) in
    let le = subst (λ (t : List ℕ). length t ≤ (number_at (w ++ r)).1 + prefix_len is_more (drop (number_at (w ++ r)).1 (t ++ r))) (sym split) (tail_reached number tail r (number_at (w ++ r)).1 each reach) in
    subst (λ (x : TokenKind × ℕ). Covers x k.Illegal (length w)) (sym (number_first (w ++ r) b)) (spoilt_covers (w ++ r) w r refl b never le)

-- ---- words

either_way : (b : Bool) (x y : TokenKind × ℕ) → 2 ≤ x.1 → 2 ≤ y.1 → 2 ≤ (cond b x y).1
either_way true x y f g = f
either_way false x y f g = g

blob_at_least : (cs : List ℕ) → 2 ≤ (blob_token cs).1
unfolding blob_token
blob_at_least cs =
    let n = prefix_len (λ c. not (c == 39)) cs in
    either_way (ltb n (length cs)) (cond (n % 2 == 0 && list_all is_ascii_hexdigit (take n cs)) k.Blob k.Illegal, n + 3) (k.Open, 2 + length cs) (omega arith) (omega arith)

word_first : (c : ℕ) (cs : List ℕ) → is_start c ≡ true → token_at (c ∷ cs) ≡ cond ((c == 120 || c == 88) && first_is (λ q. q == 39) cs) (blob_token (drop 1 cs)) (k.Ident, 1 + prefix_len is_more cs)
unfolding token_at
word_first c cs e =
    rw (other_than is_start c 39 e refl, other_than is_start c 34 e refl, other_than is_start c 96 e refl, other_than is_start c 91 e refl, start_no_digit c e, other_than is_start c 46 e refl, e) refl

quote_ends_word : (more r : List ℕ) → Each is_more more → first_is (λ q. q == 39) (more ++ r) ≡ true → more ≡ []
quote_ends_word [] r each e = refl
quote_ends_word (c ∷ cs) r each e =
    let t = both (is_more c) (list_all is_more cs) each in
    contradiction (c == 39) e (other_than is_more c 39 t.0 refl)

word_covered : (c : ℕ) (more r : List ℕ) → is_start c ≡ true → Each is_more more → Covers (token_at (c ∷ (more ++ r))) k.Ident (suc (length more))
word_covered c more r e each =
    subst (λ (x : TokenKind × ℕ). Covers x k.Ident (suc (length more))) (sym (word_first c (more ++ r) e))
    (by_cases (λ (x : TokenKind × ℕ). Covers x k.Ident (suc (length more))) ((c == 120 || c == 88) && first_is (λ q. q == 39) (more ++ r)) (blob_token (drop 1 (more ++ r))) (k.Ident, 1 + prefix_len is_more (more ++ r))
    (λ blob. let none : length more ≡ 0 = ap length (quote_ends_word more r each (both (c == 120 || c == 88) (first_is (λ q. q == 39) (more ++ r)) blob).1) in
    inl (omega (arith, none, blob_at_least (drop 1 (more ++ r)))))
    (λ word. covers_same k.Ident (suc (length more)) (1 + prefix_len is_more (more ++ r)) (omega (arith, run_least is_more more r each))))

-- ---- signs

sign_covers : (a : ℕ) (r : List ℕ) → is_sign a ≡ true → Covers (sign_token (a ∷ r)) k.Op 1
unfolding sign_token
sign_covers a [] e = rw e (inr (refl, refl))
sign_covers a (b ∷ r) e = by_cases (λ (x : TokenKind × ℕ). Covers x k.Op 1) (is_pair a b) (k.Op, 2) (cond (is_sign a) (k.Op, 1) (k.Illegal, 1))
    (λ p. inl (omega arith)) (λ p. rw e (inr (refl, refl)))

point_number : (r : List ℕ) → first_is is_ascii_digit r ≡ true → 2 ≤ (number_at (46 ∷ r)).1
point_number r e =
    let d = run is_ascii_digit r in
    let some = some_run r e in
    let part_some : 0 < length d.part = omega (arith, some, d.len) in
    let none : d.part ≡ [] → ⊥ = λ z. (let y : length d.part ≡ 0 = ap length z in omega (arith, y, part_some)) in
    let fit : length (46 ∷ d.part) ≤ (number_at ((46 ∷ d.part) ++ d.rest)).1 = fits (46 ∷ d.part) d.rest (inr (inl ([], d.part, refl, d.each, none, refl))) in
    let fit_here : length (46 ∷ d.part) ≤ (number_at (46 ∷ r)).1 = subst (λ (t : List ℕ). length (46 ∷ d.part) ≤ (number_at (46 ∷ t)).1) (sym d.split) fit in
    omega (arith, fit_here, part_some)

point_covered : (r : List ℕ) → Covers (token_at (46 ∷ r)) k.Op 1
unfolding token_at
point_covered r = by_cases (λ (x : TokenKind × ℕ). Covers x k.Op 1) (first_is is_ascii_digit r) (number_token (46 ∷ r)) (sign_token (46 ∷ r))
    (λ e. inl (omega (arith, point_number r e, number_token_fits (46 ∷ r))))
    (λ e. sign_covers 46 r refl)

one_sign_covered : (a : ℕ) (r : List ℕ) → IsTrue (is_sign a) → Covers (token_at (a ∷ r)) k.Op 1
unfolding token_at
one_sign_covered a r e = sign_is (λ (c : ℕ). Covers (token_at (c ∷ r)) k.Op 1)
    (sign_covers 40 r refl) (sign_covers 41 r refl) (sign_covers 44 r refl) (sign_covers 59 r refl) (point_covered r) (sign_covers 42 r refl) (sign_covers 43 r refl)
    (sign_covers 45 r refl) (sign_covers 47 r refl) (sign_covers 37 r refl) (sign_covers 60 r refl) (sign_covers 62 r refl) (sign_covers 61 r refl) a e

two_signs_covered : (a b : ℕ) (r : List ℕ) → IsTrue (is_pair a b) → Covers (token_at (a ∷ b ∷ r)) k.Op 2
unfolding token_at sign_token
two_signs_covered a b r e = pair_is (λ (c d : ℕ). Covers (token_at (c ∷ d ∷ r)) k.Op 2)
    (inr (refl, refl)) (inr (refl, refl)) (inr (refl, refl)) (inr (refl, refl)) (inr (refl, refl)) (inr (refl, refl)) a b e

-- ---- what begins nothing

not_true : (b : Bool) → not b ≡ true → b ≡ false
not_true true e = absurd cc
not_true false e = refl

no_sign_covers : (c : ℕ) (r : List ℕ) → is_sign c ≡ false → Covers (sign_token (c ∷ r)) k.Illegal 1
unfolding sign_token
no_sign_covers a [] e = rw e (inr (refl, refl))
no_sign_covers a (b ∷ r) e = by_cases (λ (x : TokenKind × ℕ). Covers x k.Illegal 1) (is_pair a b) (k.Op, 2) (cond (is_sign a) (k.Op, 1) (k.Illegal, 1))
    (λ p. inl (omega arith)) (λ p. rw e (inr (refl, refl)))

sign_first : (c : ℕ) (r : List ℕ) → (c == 39) ≡ false → (c == 34) ≡ false → (c == 96) ≡ false → (c == 91) ≡ false → is_start c ≡ false → is_ascii_digit c ≡ false → is_sign c ≡ false → (c == 63) ≡ false → token_at (c ∷ r) ≡ sign_token (c ∷ r)
unfolding token_at
sign_first c r q double back bracket start digit sign param =
    rw (q, double, back, bracket, not_one_of is_start c 120 start refl, not_one_of is_start c 88 start refl, digit, not_one_of is_sign c 46 sign refl, start, param) refl

nothing_covered : (c : ℕ) (r : List ℕ) → IsTrue (begins_nothing c) → Covers (token_at (c ∷ r)) k.Illegal 1
nothing_covered c r e =
    let a = neither (is_start c) (is_ascii_digit c || (is_sign c || (c == 63 || (c == 39 || (c == 34 || (c == 96 || c == 91)))))) (not_true _ e) in
    let b = neither (is_ascii_digit c) (is_sign c || (c == 63 || (c == 39 || (c == 34 || (c == 96 || c == 91))))) a.1 in
    let s = neither (is_sign c) (c == 63 || (c == 39 || (c == 34 || (c == 96 || c == 91)))) b.1 in
    let d = neither (c == 63) (c == 39 || (c == 34 || (c == 96 || c == 91))) s.1 in
    let f = neither (c == 39) (c == 34 || (c == 96 || c == 91)) d.1 in
    let g = neither (c == 34) (c == 96 || c == 91) f.1 in
    let h = neither (c == 96) (c == 91) g.1 in
    subst (λ (x : TokenKind × ℕ). Covers x k.Illegal 1) (sym (sign_first c r f.0 g.0 h.0 h.1 a.0 b.0 s.0 d.0)) (no_sign_covers c r s.0)

-- ---- all kinds

name_covered : (kind : TokenKind) (w r : List ℕ) → IsName w → kind ≡ legal_kind k.Ident (is_legal w) → Covers (token_at (w ++ r)) kind (length w)
unfolding token_at
name_covered kind w r (inl (i, is)) e = rw (e, is) (quoted_covered 34 k.Ident i r refl)
name_covered kind w r (inr (inl (i, is))) e = rw (e, is) (quoted_covered 96 k.Ident i r refl)
name_covered kind w r (inr (inr (i, each, is))) e = rw (e, is) (bracketed_covered i r each)

text_covered : (kind : TokenKind) (w r : List ℕ) → IsQuoted 39 w → kind ≡ legal_kind k.Text (is_legal w) → Covers (token_at (w ++ r)) kind (length w)
unfolding token_at
text_covered kind w r (i, is) e = rw (e, is) (quoted_covered 39 k.Text i r refl)

x_covered : (kind : TokenKind) (inside w r : List ℕ) → IsX inside w → kind ≡ cond (length inside % 2 == 0 && list_all is_ascii_hexdigit inside) k.Blob k.Illegal → Covers (token_at (w ++ r)) kind (length w)
unfolding token_at
x_covered kind inside w r (x, is_x, each, is) e = elim (either (x == 120) (x == 88) is_x) [
  | inl small ↦ rw (e, is, eqb-true x 120 small) (blob_covered inside r each)
  | inr large ↦ rw (e, is, eqb-true x 88 large) (blob_covered inside r each)
]

open_covered : (w r : List ℕ) → IsOpen w → r ≡ [] → Covers (token_at (w ++ r)) k.Open (length w)
unfolding token_at
open_covered w r (inl (i, is)) e = rw is (unquoted_covered 39 k.Text i r e)
open_covered w r (inr (inl (i, is))) e = rw is (unquoted_covered 34 k.Ident i r e)
open_covered w r (inr (inr (inl (i, is)))) e = rw is (unquoted_covered 96 k.Ident i r e)
open_covered w r (inr (inr (inr (inl (i, each, is))))) e = rw is (open_bracket_covered i r each e)
open_covered w r (inr (inr (inr (inr (x, i, is_x, each, is))))) e = elim (either (x == 120) (x == 88) is_x) [
  | inl small ↦ rw (is, eqb-true x 120 small) (open_blob_covered i r each e)
  | inr large ↦ rw (is, eqb-true x 88 large) (open_blob_covered i r each e)
]

param_covered : (digits r : List ℕ) → Each is_ascii_digit digits → Covers (token_at (63 ∷ (digits ++ r))) k.Param (suc (length digits))
unfolding token_at
param_covered digits r each = covers_same k.Param (suc (length digits)) (1 + prefix_len is_ascii_digit (digits ++ r)) (omega (arith, run_least is_ascii_digit digits r each))

not_hex : (inside : List ℕ) → (IsHex inside → ⊥) → (length inside % 2 == 0 && list_all is_ascii_hexdigit inside) ≡ false
not_hex inside never = elim (told (length inside % 2 == 0 && list_all is_ascii_hexdigit inside)) [ inl hex ↦ absurd (never hex) | inr other ↦ other ]

covered : (kind : TokenKind) (w r : List ℕ) → IsToken kind w r → Covers (token_at (w ++ r)) kind (length w)
covered k.Ident w r (inl (c, more, start, each, is)) = rw is (word_covered c more r start each)
covered k.Ident w r (inr (name, legal)) = name_covered k.Ident w r name (rw legal refl)
covered k.Int w r int = number_covered k.Int w r (inl int) (int_is_covered w r int)
covered k.Real w r real = number_covered k.Real w r (inr real) (real_is_covered w r real)
covered k.Text w r (text, legal) = text_covered k.Text w r text (rw legal refl)
covered k.Blob w r (inside, x, hex) = x_covered k.Blob inside w r x (rw hex refl)
covered k.Param w r (digits, each, is) = rw is (param_covered digits r each)
covered k.Op w r (inl (a, sign, is)) = rw is (one_sign_covered a r sign)
covered k.Op w r (inr (a, b, pair, is)) = rw is (two_signs_covered a b r pair)
covered k.Open w r (open_is, e) = open_covered w r open_is e
covered k.Illegal w r (inl spoilt) = spoilt_covered w r spoilt
covered k.Illegal w r (inr (inl (inside, x, never))) = x_covered k.Illegal inside w r x (rw (not_hex inside never) refl)
covered k.Illegal w r (inr (inr (inl (inl name, nul)))) = name_covered k.Illegal w r name (rw nul refl)
covered k.Illegal w r (inr (inr (inl (inr text, nul)))) = text_covered k.Illegal w r text (rw nul refl)
covered k.Illegal w r (inr (inr (inr (c, none, is)))) = rw is (nothing_covered c r none)

pub token_longest : (bs : List ℕ) (other : TokenKind) (m : ℕ) → 0 < m → m ≤ length bs → IsToken other (take m bs) (drop m bs) → (m < (token_at bs).1) ⊎ ((m ≡ (token_at bs).1) × (other ≡ (token_at bs).0))
token_longest bs other m p l t =
    let len : length (take m bs) ≡ m = omega (arith, length-take m bs, l) in
    subst (λ (n : ℕ). Covers (token_at bs) other n) len (subst (λ (x : List ℕ). Covers (token_at x) other (length (take m bs))) (take-append-drop m bs) (covered other (take m bs) (drop m bs) t))
