-- What is read as a number is one, and no longer number begins there.
use Rattle.std.proofs.Common.{◌≡◌, ◌≢◌, ◌⊎◌, inl, inr, ℕ, suc, ◌+◌, ◌<◌, ◌≤◌, ◌==◌, Bool, true, false, cond, ltb, ◌&&◌, ◌||◌, IsTrue, List, [], ◌∷◌, ◌++◌, length, drop, refl, sym, ap, subst, ◌∙◌, append_assoc, append-nil, arith}
use Rattle.std.specs.List.{prefix_len, list_all}
use Rattle.std.specs.Char.{is_ascii_digit, is_ascii_hexdigit}
use Rattle.std.proofs.lemmas.Bool.{eqb-true, eq-eqb, ltb-true, lt-ltb}
use Rattle.std.proofs.lemmas.List.{length-append}
use Rattle.cr_lex.specs.declared.token.TokenKind.{TokenKind}
use Rattle.cr_lex.specs.declared.token.TokenKind.TheVariants as k
use Rattle.cr_lex.specs.Tokens.{Each, IsDigits, IsInt, IsPlusMinus, IsExponent, IsPointed, IsReal}
use Rattle.cr_lex.specs.Reading.{first_is, hex_len, sign_len, exponent_len, point_len, mantissa_len, decimal_len, number_at}
use Rattle.cr_lex.proofs.Parts.{told, both, either, contradiction, other_than, by_cases, run, run_least, run_exact, drop_front}

-- the bytes at the front that a length stands for
abbrev pub Took : ℕ → List ℕ → (List ℕ → Type 0) → Type 0
Took n bs P = (w : List ℕ) × (rest : List ℕ) × (bs ≡ w ++ rest) × (n ≡ length w) × P w

nothing : (bs : List ℕ) (P : List ℕ → Type 0) → Took 0 bs (λ w. (w ≡ []) ⊎ P w)
nothing bs P = ([], bs, refl, refl, inl refl)

some_are : (n : ℕ) (w : List ℕ) → (n == 0) ≡ false → n ≡ length w → w ≢ []
some_are n w z e = λ none. contradiction (n == 0) (eq-eqb n 0 (e ∙ ap length none)) z

no_length : (w : List ℕ) → length w ≡ 0 → w ≡ []
no_length [] e = refl
no_length (c ∷ cs) e = absurd (omega (arith, e))

pub some_length : (w : List ℕ) → w ≢ [] → 0 < length w
some_length [] e = absurd (e refl)
some_length (c ∷ cs) e = omega arith

not_zero : (n : ℕ) → 0 < n → (n == 0) ≡ false
not_zero n lt = elim (told (n == 0)) [ inl z ↦ (let e : n ≡ 0 = eqb-true n 0 z in absurd (omega (arith, e))) | inr nz ↦ nz ]

-- ---- exponents

sign_took : (bs : List ℕ) → Took (sign_len bs) bs IsPlusMinus
unfolding sign_len
sign_took [] = ([], [], refl, refl, inl refl)
sign_took (c ∷ cs) = by_cases (λ n. Took n (c ∷ cs) IsPlusMinus) (c == 43 || c == 45) 1 0
    (λ e. (
      c ∷ [],
      cs,
      refl,
      refl,
      elim (either (c == 43) (c == 45) e) [
        | inl plus ↦ inr (inl (ap (λ (d : ℕ). d ∷ []) (eqb-true c 43 plus)))
        | inr minus ↦ inr (inr (ap (λ (d : ℕ). d ∷ []) (eqb-true c 45 minus)))
      ],
    ))
    (λ e. ([], c ∷ cs, refl, refl, inl refl))

exponent_took : (bs : List ℕ) → Took (exponent_len bs) bs (λ w. (w ≡ []) ⊎ IsExponent w)
unfolding exponent_len
exponent_took [] = nothing [] IsExponent
exponent_took (c ∷ cs) =
    let s = sign_took cs in
    let r = run is_ascii_digit s.1 in
    let digits = prefix_len is_ascii_digit (drop (sign_len cs) cs) in
    let behind : drop (sign_len cs) cs ≡ s.1 = ap (λ (n : ℕ). drop n cs) s.3 ∙ ap (drop (length s.0)) s.2 ∙ drop_front s.0 s.1 in
    let len : digits ≡ length r.part = ap (prefix_len is_ascii_digit) behind ∙ r.len in
    let split : c ∷ cs ≡ (c ∷ s.0 ++ r.part) ++ r.rest = ap (λ (t : List ℕ). c ∷ t) (s.2 ∙ ap (λ (t : List ℕ). s.0 ++ t) r.split ∙ sym (append_assoc s.0 r.part r.rest)) in
    by_cases (λ n. Took n (c ∷ cs) (λ w. (w ≡ []) ⊎ IsExponent w)) (c == 101 || c == 69) (cond (digits == 0) 0 (1 + sign_len cs + digits)) 0
    (λ e. by_cases (λ n. Took n (c ∷ cs) (λ w. (w ≡ []) ⊎ IsExponent w)) (digits == 0) 0 (1 + sign_len cs + digits)
    (λ z. nothing (c ∷ cs) IsExponent)
    (λ z. (c ∷ s.0 ++ r.part, r.rest, split, omega (arith, len, s.3, length-append s.0 r.part), inr (c, s.0, r.part, e, s.4, (r.each, some_are digits r.part z len), refl))))
    (λ e. nothing (c ∷ cs) IsExponent)

plain_sign : (w r : List ℕ) → IsDigits w → sign_len (w ++ r) ≡ 0
unfolding sign_len
plain_sign [] r d = absurd (d.1 refl)
plain_sign (c ∷ cs) r d =
    let digit = (both (is_ascii_digit c) (list_all is_ascii_digit cs) d.0).0 in
    rw (other_than is_ascii_digit c 43 digit refl, other_than is_ascii_digit c 45 digit refl) refl

signed : (sign w r : List ℕ) → IsPlusMinus sign → IsDigits w → sign_len (sign ++ (w ++ r)) ≡ length sign
unfolding sign_len
signed sign w r (inl e) d = rw e (plain_sign w r d)
signed sign w r (inr (inl e)) d = rw e refl
signed sign w r (inr (inr e)) d = rw e refl

exponent_more : (e : ℕ) (sign w r : List ℕ) → IsTrue (e == 101 || e == 69) → IsPlusMinus sign → IsDigits w → 1 + length sign + length w ≤ exponent_len (e ∷ (sign ++ (w ++ r)))
unfolding exponent_len
exponent_more e sign w r is_e s d =
    let len = signed sign w r s d in
    let digits = run_least is_ascii_digit w r d.0 in
    let least : length w ≤ prefix_len is_ascii_digit (w ++ r) = omega (arith, digits) in
    let some = some_length w d.1 in
    rw (is_e, len, drop_front sign (w ++ r), not_zero (prefix_len is_ascii_digit (w ++ r)) (omega (arith, least, some))) (omega (arith, least))

pub exponent_least : (w r : List ℕ) → IsExponent w → length w ≤ exponent_len (w ++ r)
exponent_least w r (e, sign, digits, is_e, s, d, is) =
    let more = exponent_more e sign digits r is_e s d in
    subst (λ (t : List ℕ). length t ≤ exponent_len (t ++ r)) (sym is)
    (subst (λ (t : List ℕ). suc (length (sign ++ digits)) ≤ exponent_len (e ∷ t)) (sym (append_assoc sign digits r)) (omega (arith, more, length-append sign digits)))

-- ---- points

point_took : (bs : List ℕ) → Took (point_len bs) bs (λ w. (w ≡ []) ⊎ ((part : List ℕ) × Each is_ascii_digit part × (w ≡ 46 ∷ part)))
unfolding point_len
point_took [] = nothing [] (λ w. (part : List ℕ) × Each is_ascii_digit part × (w ≡ 46 ∷ part))
point_took (c ∷ cs) =
    let r = run is_ascii_digit cs in
    by_cases (λ n. Took n (c ∷ cs) (λ w. (w ≡ []) ⊎ ((part : List ℕ) × Each is_ascii_digit part × (w ≡ 46 ∷ part)))) (c == 46) (1 + prefix_len is_ascii_digit cs) 0
    (λ e. (c ∷ r.part, r.rest, ap (λ (t : List ℕ). c ∷ t) r.split, omega (arith, r.len), inr (r.part, r.each, ap (λ (d : ℕ). d ∷ r.part) (eqb-true c 46 e))))
    (λ e. nothing (c ∷ cs) (λ w. (part : List ℕ) × Each is_ascii_digit part × (w ≡ 46 ∷ part)))

-- ---- decimal numbers

record Decimal (bs : List ℕ) : Type 0 where
  whole : List ℕ
  point : List ℕ
  exponent : List ℕ
  rest : List ℕ
  split : bs ≡ (whole ++ (point ++ exponent)) ++ rest
  whole_len : prefix_len is_ascii_digit bs ≡ length whole
  point_is : point_len (drop (prefix_len is_ascii_digit bs) bs) ≡ length point
  len : decimal_len bs ≡ length whole + length point + length exponent
  digits : Each is_ascii_digit whole
  pointed : (point ≡ []) ⊎ ((part : List ℕ) × Each is_ascii_digit part × (point ≡ 46 ∷ part))
  scaled : (exponent ≡ []) ⊎ IsExponent exponent

decimal : (bs : List ℕ) → Decimal bs
unfolding decimal_len mantissa_len
decimal bs =
    let r = run is_ascii_digit bs in
    let p = point_took r.rest in
    let x = exponent_took p.1 in
    let behind : drop (prefix_len is_ascii_digit bs) bs ≡ r.rest = ap (λ (n : ℕ). drop n bs) r.len ∙ ap (drop (length r.part)) r.split ∙ drop_front r.part r.rest in
    let point : point_len (drop (prefix_len is_ascii_digit bs) bs) ≡ length p.0 = ap point_len behind ∙ p.3 in
    let mantissa : prefix_len is_ascii_digit bs + point_len (drop (prefix_len is_ascii_digit bs) bs) ≡ length (r.part ++ p.0) = omega (arith, r.len, point, length-append r.part p.0) in
    let front : bs ≡ (r.part ++ p.0) ++ p.1 = r.split ∙ ap (λ (t : List ℕ). r.part ++ t) p.2 ∙ sym (append_assoc r.part p.0 p.1) in
    let then : drop (prefix_len is_ascii_digit bs + point_len (drop (prefix_len is_ascii_digit bs) bs)) bs ≡ p.1 = ap (λ (n : ℕ). drop n bs) mantissa ∙ ap (drop (length (r.part ++ p.0))) front ∙ drop_front (r.part ++ p.0) p.1 in
    let exponent : exponent_len (drop (prefix_len is_ascii_digit bs + point_len (drop (prefix_len is_ascii_digit bs) bs)) bs) ≡ length x.0 = ap exponent_len then ∙ x.3 in
    record {
      whole = r.part;
      point = p.0;
      exponent = x.0;
      rest = x.1;
      split = front ∙ ap (λ (t : List ℕ). (r.part ++ p.0) ++ t) x.2 ∙ sym (append_assoc (r.part ++ p.0) x.0 x.1) ∙ ap (λ (t : List ℕ). t ++ x.1) (append_assoc r.part p.0 x.0);
      whole_len = r.len;
      point_is = point;
      len = omega (arith, r.len, point, exponent);
      digits = r.each;
      pointed = p.4;
      scaled = x.4;
    }

-- a digit, or a point and a digit
abbrev pub Begins : List ℕ → Type 0
Begins bs = (first_is is_ascii_digit bs ≡ true) ⊎ ((rest : List ℕ) × (bs ≡ 46 ∷ rest) × (first_is is_ascii_digit rest ≡ true))

pub some_run : (bs : List ℕ) → first_is is_ascii_digit bs ≡ true → 0 < prefix_len is_ascii_digit bs
some_run [] e = absurd cc
some_run (c ∷ cs) e = rw e (omega arith)

begins_some : (bs : List ℕ) → Begins bs → (0 < prefix_len is_ascii_digit bs) ⊎ (2 ≤ point_len (drop (prefix_len is_ascii_digit bs) bs))
unfolding point_len
begins_some bs (inl e) = inl (some_run bs e)
begins_some bs (inr (rest, is, e)) =
    let some = some_run rest e in
    inr (subst (λ (t : List ℕ). 2 ≤ point_len (drop (prefix_len is_ascii_digit t) t)) (sym is) (omega (arith, some)))

-- ---- hexadecimal numbers

hex_took : (bs : List ℕ) → Took (hex_len bs) bs (λ w. (w ≡ []) ⊎ IsInt w)
unfolding hex_len
hex_took [] = nothing [] IsInt
hex_took (a ∷ []) = nothing (a ∷ []) IsInt
hex_took (a ∷ b ∷ cs) =
    let r = run is_ascii_hexdigit cs in
    let n = prefix_len is_ascii_hexdigit cs in
    by_cases (λ m. Took m (a ∷ b ∷ cs) (λ w. (w ≡ []) ⊎ IsInt w)) (a == 48 && b == 120) (cond (n == 0) 0 (2 + n)) 0
    (λ e. by_cases (λ m. Took m (a ∷ b ∷ cs) (λ w. (w ≡ []) ⊎ IsInt w)) (n == 0) 0 (2 + n)
    (λ z. nothing (a ∷ b ∷ cs) IsInt)
    (λ z. let ab = both (a == 48) (b == 120) e in (
      a ∷ b ∷ r.part,
      r.rest,
      ap (λ (t : List ℕ). a ∷ b ∷ t) r.split,
      omega (arith, r.len),
      inr (inr (r.part, r.each, some_are n r.part z r.len, ap (λ (d : ℕ). d ∷ b ∷ r.part) (eqb-true a 48 ab.0) ∙ ap (λ (d : ℕ). 48 ∷ d ∷ r.part) (eqb-true b 120 ab.1))),
    )))
    (λ e. nothing (a ∷ b ∷ cs) IsInt)

-- ---- numbers

-- the kind of a number
abbrev pub OfKind : TokenKind → List ℕ → Type 0
OfKind kind w = ((kind ≡ k.Int) × IsInt w) ⊎ ((kind ≡ k.Real) × IsReal w)

abbrev pub TookNumber : TokenKind × ℕ → List ℕ → Type 0
TookNumber x bs = Took x.1 bs (OfKind x.0)

hex_number : (bs : List ℕ) → ltb 0 (hex_len bs) ≡ true → TookNumber (k.Int, hex_len bs) bs
hex_number bs lt =
    let t = hex_took bs in
    let some : 0 < hex_len bs = ltb-true _ _ lt in (
      t.0,
      t.1,
      t.2,
      t.3,
      elim t.4 [
        | inl none ↦ (let e : length t.0 ≡ 0 = ap length none in absurd (omega (arith, e, t.3, some)))
        | inr int ↦ inl (refl, int)
      ],
    )

int_number : (bs : List ℕ) → Begins bs → (d : Decimal bs) → prefix_len is_ascii_digit bs ≡ decimal_len bs → TookNumber (k.Int, decimal_len bs) bs
int_number bs b d e =
    let some : 0 < length d.whole = elim (begins_some bs b) [
      | inl whole ↦ omega (arith, whole, d.whole_len)
      | inr point ↦ absurd (omega (arith, point, d.point_is, d.len, d.whole_len, e))
    ] in (
      d.whole,
      (d.point ++ d.exponent) ++ d.rest,
      d.split ∙ append_assoc d.whole (d.point ++ d.exponent) d.rest,
      sym e ∙ d.whole_len,
      inl (refl, inl (d.digits, λ none. (let z : length d.whole ≡ 0 = ap length none in absurd (omega (arith, z, some))))),
    )

both_empty : (a b : List ℕ) → a ++ b ≡ [] → (length a ≡ 0) × (length b ≡ 0)
both_empty a b e = let n : length (a ++ b) ≡ 0 = ap length e in let l = length-append a b in (omega (arith, n, l), omega (arith, n, l))

is_pointed : (bs : List ℕ) → Begins bs → (d : Decimal bs) → (part : List ℕ) → Each is_ascii_digit part → d.point ≡ 46 ∷ part → IsPointed (d.whole ++ d.point)
is_pointed bs b d part each is = (
  d.whole,
  part,
  d.digits,
  each,
  (λ none.
      (let z = both_empty d.whole part none in
      let one : length d.point ≡ suc (length part) = ap length is in
      elim (begins_some bs b) [
        | inl whole ↦ absurd (omega (arith, whole, d.whole_len, z.0))
        | inr point ↦ absurd (omega (arith, point, d.point_is, one, z.1))
      ])),
  ap (λ (t : List ℕ). d.whole ++ t) is,
)

real_is : (bs : List ℕ) → Begins bs → (d : Decimal bs) → (prefix_len is_ascii_digit bs ≡ decimal_len bs → ⊥) → IsReal (d.whole ++ (d.point ++ d.exponent))
real_is bs b d ne = elim d.pointed [
  | inl no_point ↦ (
      let plain : d.whole ++ (d.point ++ d.exponent) ≡ d.whole ++ d.exponent = ap (λ (t : List ℕ). d.whole ++ (t ++ d.exponent)) no_point in
      let z : length d.point ≡ 0 = ap length no_point in
      elim d.scaled [
        | inl no_exponent ↦ (let y : length d.exponent ≡ 0 = ap length no_exponent in absurd (ne (omega (arith, d.len, d.whole_len, y, z))))
        | inr exponent ↦ subst IsReal (sym plain) (inr (
          d.whole,
          d.exponent,
          inr (
            d.digits,
            λ none.
                (let x : length d.whole ≡ 0 = ap length none in
                elim (begins_some bs b) [
                  | inl whole ↦ absurd (omega (arith, whole, d.whole_len, x))
                  | inr point ↦ absurd (omega (arith, point, d.point_is, z))
                ]),
          ),
          exponent,
          refl,
        ))
      ])
  | inr (part, each, is) ↦ (
      let pointed = is_pointed bs b d part each is in
      elim d.scaled [
        | inl no_exponent ↦ subst IsReal (sym (ap (λ (t : List ℕ). d.whole ++ (d.point ++ t)) no_exponent ∙ ap (λ (t : List ℕ). d.whole ++ t) (append-nil d.point))) (inl pointed)
        | inr exponent ↦ inr (d.whole ++ d.point, d.exponent, inl pointed, exponent, sym (append_assoc d.whole d.point d.exponent))
      ])
]

real_number : (bs : List ℕ) → Begins bs → (d : Decimal bs) → (prefix_len is_ascii_digit bs ≡ decimal_len bs → ⊥) → TookNumber (k.Real, decimal_len bs) bs
real_number bs b d ne =
    (d.whole ++ (d.point ++ d.exponent), d.rest, d.split, omega (arith, d.len, length-append d.whole (d.point ++ d.exponent), length-append d.point d.exponent), inr (refl, real_is bs b d ne))

pub number_took : (bs : List ℕ) → Begins bs → TookNumber (number_at bs) bs
unfolding number_at
number_took bs b =
    by_cases (λ (x : TokenKind × ℕ). TookNumber x bs) (ltb 0 (hex_len bs)) (k.Int, hex_len bs) (cond (prefix_len is_ascii_digit bs == decimal_len bs) (k.Int, decimal_len bs) (k.Real, decimal_len bs))
    (λ e. hex_number bs e)
    (λ e. by_cases (λ (x : TokenKind × ℕ). TookNumber x bs) (prefix_len is_ascii_digit bs == decimal_len bs) (k.Int, decimal_len bs) (k.Real, decimal_len bs)
    (λ same. int_number bs b (decimal bs) (eqb-true _ _ same))
    (λ other. real_number bs b (decimal bs) (λ same. contradiction (prefix_len is_ascii_digit bs == decimal_len bs) (eq-eqb _ _ same) other)))

-- ---- no longer one

-- what is at the front is longer, or it is this
abbrev pub Covers : TokenKind × ℕ → TokenKind → ℕ → Type 0
Covers x kind n = (n < x.1) ⊎ ((n ≡ x.1) × (kind ≡ x.0))

covers_int : (n m : ℕ) → n ≤ m → Covers (k.Int, m) k.Int n
covers_int n m le = elim (told (n == m)) [
  | inl same ↦ inr (eqb-true n m same, refl)
  | inr other ↦ inl (less n m le other)
]
  where
    less : (n m : ℕ) → n ≤ m → (n == m) ≡ false → n < m
    less n m le other = let ne : n ≢ m = λ e. contradiction (n == m) (eq-eqb n m e) other in omega (arith, le, ne)

decimal_covers_int : (w r : List ℕ) → Each is_ascii_digit w → (length w ≤ prefix_len is_ascii_digit (w ++ r)) × (prefix_len is_ascii_digit (w ++ r) ≤ decimal_len (w ++ r))
unfolding decimal_len mantissa_len
decimal_covers_int w r each = (omega (arith, run_least is_ascii_digit w r each), omega arith)

short_hex : (w r : List ℕ) → IsDigits w → 0 < hex_len (w ++ r) → length w ≤ hex_len (w ++ r)
unfolding hex_len
short_hex [] r d some = omega arith
short_hex (a ∷ []) r d some = omega arith
short_hex (a ∷ b ∷ cs) r d some =
    let digit = (both (is_ascii_digit b) (list_all is_ascii_digit cs) (both (is_ascii_digit a) (is_ascii_digit b && list_all is_ascii_digit cs) d.0).1).0 in
    let not_x = other_than is_ascii_digit b 120 digit refl in
    let none : hex_len (a ∷ b ∷ (cs ++ r)) ≡ 0 = never (a == 48) (b == 120) (cond (prefix_len is_ascii_hexdigit (cs ++ r) == 0) 0 (2 + prefix_len is_ascii_hexdigit (cs ++ r))) not_x in
    absurd (omega (arith, none, some))
  where
    never : (x y : Bool) (n : ℕ) → y ≡ false → cond (x && y) n 0 ≡ 0
    never true y n e = rw e refl
    never false y n e = refl

int_covered : (w r : List ℕ) → IsDigits w → Covers (number_at (w ++ r)) k.Int (length w)
unfolding number_at
int_covered w r d =
    let bs = w ++ r in
    let fits = decimal_covers_int w r d.0 in
    by_cases (λ (x : TokenKind × ℕ). Covers x k.Int (length w)) (ltb 0 (hex_len bs)) (k.Int, hex_len bs) (cond (prefix_len is_ascii_digit bs == decimal_len bs) (k.Int, decimal_len bs) (k.Real, decimal_len bs))
    (λ e. covers_int (length w) (hex_len bs) (short_hex w r d (ltb-true _ _ e)))
    (λ e. by_cases (λ (x : TokenKind × ℕ). Covers x k.Int (length w)) (prefix_len is_ascii_digit bs == decimal_len bs) (k.Int, decimal_len bs) (k.Real, decimal_len bs)
    (λ same. covers_int (length w) (decimal_len bs) (omega (arith, fits.0, fits.1)))
    (λ other. let ne : prefix_len is_ascii_digit bs ≢ decimal_len bs = λ same. contradiction (prefix_len is_ascii_digit bs == decimal_len bs) (eq-eqb _ _ same) other in
    inl (omega (arith, fits.0, fits.1, ne))))

hex_covered : (digits r : List ℕ) → Each is_ascii_hexdigit digits → digits ≢ [] → Covers (number_at (48 ∷ 120 ∷ (digits ++ r))) k.Int (suc (suc (length digits)))
unfolding number_at hex_len
hex_covered digits r each ne =
    let least = run_least is_ascii_hexdigit digits r each in
    let some = some_length digits ne in
    let n = prefix_len is_ascii_hexdigit (digits ++ r) in
    rw (not_zero n (omega (arith, least, some)), lt-ltb 0 (2 + n) (omega arith)) (covers_int (suc (suc (length digits))) (2 + n) (omega (arith, least)))

-- a decimal number does not begin as a hexadecimal one
not_hex : (whole : List ℕ) (c : ℕ) (r : List ℕ) → Each is_ascii_digit whole → (c == 48) ≡ false → (c == 120) ≡ false → hex_len (whole ++ c ∷ r) ≡ 0
unfolding hex_len
not_hex [] c [] each z x = refl
not_hex [] c (b ∷ r) each z x = rw z refl
not_hex (a ∷ []) c r each z x = rw x (none (a == 48) _)
  where
    none : (b : Bool) (n : ℕ) → cond (b && false) n 0 ≡ 0
    none true n = refl
    none false n = refl
not_hex (a ∷ b ∷ cs) c r each z x =
    let digit = (both (is_ascii_digit b) (list_all is_ascii_digit cs) (both (is_ascii_digit a) (is_ascii_digit b && list_all is_ascii_digit cs) each).1).0 in
    rw (other_than is_ascii_digit b 120 digit refl) (none (a == 48) _)
  where
    none : (b : Bool) (n : ℕ) → cond (b && false) n 0 ≡ 0
    none true n = refl
    none false n = refl

real_covers : (bs : List ℕ) (n : ℕ) → hex_len bs ≡ 0 → prefix_len is_ascii_digit bs < n → n ≤ decimal_len bs → Covers (number_at bs) k.Real n
unfolding number_at
real_covers bs n z lt le =
    let other : (prefix_len is_ascii_digit bs == decimal_len bs) ≡ false = elim (told (prefix_len is_ascii_digit bs == decimal_len bs)) [
      | inl same ↦ (let e : prefix_len is_ascii_digit bs ≡ decimal_len bs = eqb-true _ _ same in absurd (omega (arith, e, lt, le)))
      | inr differs ↦ differs
    ] in
    rw (z, other) (elim (told (n == decimal_len bs)) [
      | inl same ↦ inr (eqb-true n _ same, refl)
      | inr differs ↦ (let ne : n ≢ decimal_len bs = λ e. contradiction (n == decimal_len bs) (eq-eqb n _ e) differs in inl (omega (arith, le, ne)))
    ])

-- how far a decimal number goes
mantissa_of : (whole r : List ℕ) → Each is_ascii_digit whole → first_is is_ascii_digit r ≡ false → (prefix_len is_ascii_digit (whole ++ r) ≡ length whole) × (mantissa_len (whole ++ r) ≡ length whole + point_len r)
unfolding mantissa_len
mantissa_of whole r each stops =
    let len = run_exact is_ascii_digit whole r each stops in
    (len, rw (len, drop_front whole r) refl)

pointed_len : (part r : List ℕ) → Each is_ascii_digit part → 1 + length part ≤ point_len (46 ∷ (part ++ r))
unfolding point_len
pointed_len part r each = omega (arith, run_least is_ascii_digit part r each)

pointed_exactly : (part r : List ℕ) → Each is_ascii_digit part → first_is is_ascii_digit r ≡ false → point_len (46 ∷ (part ++ r)) ≡ 1 + length part
unfolding point_len
pointed_exactly part r each stops = omega (arith, run_exact is_ascii_digit part r each stops)

pointed_covered : (whole part r : List ℕ) → Each is_ascii_digit whole → Each is_ascii_digit part → Covers (number_at (whole ++ 46 ∷ (part ++ r))) k.Real (length whole + suc (length part))
unfolding decimal_len
pointed_covered whole part r w p =
    let bs = whole ++ 46 ∷ (part ++ r) in
    let m = mantissa_of whole (46 ∷ (part ++ r)) w refl in
    let point = pointed_len part r p in
    let le : length whole + suc (length part) ≤ decimal_len bs = omega (arith, m.1, point) in
    real_covers bs (length whole + suc (length part)) (not_hex whole 46 (part ++ r) w refl refl) (omega (arith, m.0)) le

-- an exponent begins with no digit, point or `x`
exponent_begins : (x r : List ℕ) → IsExponent x → (first_is is_ascii_digit (x ++ r) ≡ false) × (point_len (x ++ r) ≡ 0)
unfolding point_len
exponent_begins x r (e, sign, digits, is_e, s, d, is) = rw is (elim (either (e == 101) (e == 69) is_e) [
  | inl small ↦ rw (eqb-true e 101 small) (refl, refl)
  | inr large ↦ rw (eqb-true e 69 large) (refl, refl)
])

not_hex_exponent : (whole x r : List ℕ) → Each is_ascii_digit whole → IsExponent x → hex_len (whole ++ (x ++ r)) ≡ 0
not_hex_exponent whole x r w (e, sign, digits, is_e, s, d, is) = rw is (elim (either (e == 101) (e == 69) is_e) [
  | inl small ↦ rw (eqb-true e 101 small) (not_hex whole 101 ((sign ++ digits) ++ r) w refl refl)
  | inr large ↦ rw (eqb-true e 69 large) (not_hex whole 69 ((sign ++ digits) ++ r) w refl refl)
])

pub exponent_some : (x : List ℕ) → IsExponent x → 0 < length x
exponent_some x (e, sign, digits, is_e, s, d, is) = rw is (omega arith)

scaled_covered : (whole x r : List ℕ) → Each is_ascii_digit whole → IsExponent x → Covers (number_at (whole ++ (x ++ r))) k.Real (length whole + length x)
unfolding decimal_len
scaled_covered whole x r w e =
    let bs = whole ++ (x ++ r) in
    let begins = exponent_begins x r e in
    let m = mantissa_of whole (x ++ r) w begins.0 in
    let mantissa : mantissa_len bs ≡ length whole = omega (arith, m.1, begins.1) in
    let behind : drop (mantissa_len bs) bs ≡ x ++ r = ap (λ (n : ℕ). drop n bs) mantissa ∙ drop_front whole (x ++ r) in
    let same : exponent_len (drop (mantissa_len bs) bs) ≡ exponent_len (x ++ r) = ap exponent_len behind in
    let least = exponent_least x r e in
    let le : length whole + length x ≤ decimal_len bs = omega (arith, mantissa, same, least) in
    real_covers bs (length whole + length x) (not_hex_exponent whole x r w e) (omega (arith, m.0, exponent_some x e)) le

pointed_scaled_covered : (whole part x r : List ℕ) → Each is_ascii_digit whole → Each is_ascii_digit part → IsExponent x → Covers (number_at (whole ++ 46 ∷ (part ++ (x ++ r)))) k.Real (length whole + suc (length part) + length x)
unfolding decimal_len
pointed_scaled_covered whole part x r w p e =
    let bs = whole ++ 46 ∷ (part ++ (x ++ r)) in
    let begins = exponent_begins x r e in
    let m = mantissa_of whole (46 ∷ (part ++ (x ++ r))) w refl in
    let point = pointed_exactly part (x ++ r) p begins.0 in
    let mantissa : mantissa_len bs ≡ length (whole ++ 46 ∷ part) = omega (arith, m.1, point, length-append whole (46 ∷ part)) in
    let front : bs ≡ (whole ++ 46 ∷ part) ++ (x ++ r) = sym (append_assoc whole (46 ∷ part) (x ++ r)) in
    let behind : drop (mantissa_len bs) bs ≡ x ++ r = ap (λ (n : ℕ). drop n bs) mantissa ∙ ap (drop (length (whole ++ 46 ∷ part))) front ∙ drop_front (whole ++ 46 ∷ part) (x ++ r) in
    let same : exponent_len (drop (mantissa_len bs) bs) ≡ exponent_len (x ++ r) = ap exponent_len behind in
    let least = exponent_least x r e in
    let le : length whole + suc (length part) + length x ≤ decimal_len bs = omega (arith, mantissa, same, least, length-append whole (46 ∷ part)) in
    real_covers bs (length whole + suc (length part) + length x) (not_hex whole 46 (part ++ (x ++ r)) w refl refl) (omega (arith, m.0)) le

pub int_is_covered : (w r : List ℕ) → IsInt w → Covers (number_at (w ++ r)) k.Int (length w)
int_is_covered w r (inl d) = int_covered w r d
int_is_covered w r (inr (digits, each, ne, is)) = rw is (hex_covered digits r each ne)

pub real_is_covered : (w r : List ℕ) → IsReal w → Covers (number_at (w ++ r)) k.Real (length w)
real_is_covered w r (inl (whole, part, a, b, ne, is)) =
    rw (is, append_assoc whole (46 ∷ part) r, length-append whole (46 ∷ part)) (pointed_covered whole part r a b)
real_is_covered w r (inr (mantissa, x, inl (whole, part, a, b, ne, is_m), e, is)) =
    rw (is, is_m, append_assoc (whole ++ 46 ∷ part) x r, append_assoc whole (46 ∷ part) (x ++ r), length-append (whole ++ 46 ∷ part) x, length-append whole (46 ∷ part)) (pointed_scaled_covered whole part x r a b e)
real_is_covered w r (inr (mantissa, x, inr d, e, is)) =
    rw (is, append_assoc mantissa x r, length-append mantissa x) (scaled_covered mantissa x r d.0 e)
