-- What is read behind an opening quote, bracket or `x'` is a token, and no longer one begins there.
use Rattle.std.proofs.Common.{◌≡◌, ◌≢◌, inl, inr, ℕ, suc, ◌+◌, ◌%◌, ◌<◌, ◌==◌, Bool, true, false, cond, not, ltb, ◌&&◌, ◌||◌, IsTrue, List, [], ◌∷◌, ◌++◌, length, take, Option, Some, None, refl, sym, ap, subst, ◌∙◌, append_assoc, append-nil, arith}
use Rattle.std.specs.List.{prefix_len, list_all}
use Rattle.std.specs.Char.{is_ascii_hexdigit}
use Rattle.std.proofs.lemmas.Bool.{eqb-true, eq-eqb, ltb-true, lt-ltb}
use Rattle.std.proofs.lemmas.List.{length-append}
use Rattle.cr_lex.specs.declared.token.TokenKind.{TokenKind}
use Rattle.cr_lex.specs.declared.token.TokenKind.TheVariants as k
use Rattle.cr_lex.specs.Tokens.{Each, doubled, IsQuoted, IsUnquoted, is_legal, IsToken}
use Rattle.cr_lex.specs.Reading.{first_is, closing, legal, closed_token, quoted_token, bracketed_token, blob_token}
use Rattle.cr_lex.proofs.Parts.{told, contradiction, by_cases, same, run, run_exact, take_front}
use Rattle.cr_lex.proofs.Numbers.{Covers}

-- a token at the front, and what follows
abbrev pub Front : TokenKind × ℕ → List ℕ → Type 0
Front x bs = (w : List ℕ) × (rest : List ℕ) × (bs ≡ w ++ rest) × (x.1 ≡ length w) × (0 < length w) × IsToken x.0 w rest

-- ---- closing quotes

abbrev opened : ℕ → Bool → List ℕ → List ℕ
opened q true bs = q ∷ bs
opened q false bs = bs

abbrev extra : Bool → ℕ
extra true = 1
extra false = 0

abbrev Shape : ℕ → Bool → ℕ → List ℕ → Option ℕ → Type 0
Shape q a n bs (Some m) = (inside : List ℕ) × (rest : List ℕ) × (opened q a bs ≡ doubled q inside ++ q ∷ rest) × (m + extra a ≡ n + length (doubled q inside) + 1)
Shape q a n bs None = (inside : List ℕ) × (opened q a bs ≡ doubled q inside)

second : (q n c : ℕ) (cs : List ℕ) (r : Option ℕ) → c ≡ q → Shape q false (n + 1) cs r → Shape q true n (c ∷ cs) r
unfolding doubled
second q n c cs (Some m) e (i, rest, split, len) = (q ∷ i, rest, rw (same q) (ap (λ (d : ℕ). q ∷ d ∷ cs) e ∙ ap (λ (t : List ℕ). q ∷ q ∷ t) split), rw (same q) (omega (arith, len)))
second q n c cs None e (i, split) = (q ∷ i, rw (same q) (ap (λ (d : ℕ). q ∷ d ∷ cs) e ∙ ap (λ (t : List ℕ). q ∷ q ∷ t) split))

first : (q n c : ℕ) (cs : List ℕ) (r : Option ℕ) → c ≡ q → Shape q true (n + 1) cs r → Shape q false n (c ∷ cs) r
first q n c cs (Some m) e (i, rest, split, len) = (i, rest, ap (λ (d : ℕ). d ∷ cs) e ∙ split, omega (arith, len))
first q n c cs None e (i, split) = (i, ap (λ (d : ℕ). d ∷ cs) e ∙ split)

plain : (q n c : ℕ) (cs : List ℕ) (r : Option ℕ) → (c == q) ≡ false → Shape q false (n + 1) cs r → Shape q false n (c ∷ cs) r
unfolding doubled
plain q n c cs (Some m) e (i, rest, split, len) = (c ∷ i, rest, rw e (ap (λ (t : List ℕ). c ∷ t) split), rw e (omega (arith, len)))
plain q n c cs None e (i, split) = (c ∷ i, rw e (ap (λ (t : List ℕ). c ∷ t) split))

shape : (q : ℕ) (a : Bool) (n : ℕ) (bs : List ℕ) → Shape q a n bs (closing q a n bs)
unfolding closing doubled
shape q true n [] = ([], [], refl, omega arith)
shape q false n [] = ([], refl)
shape q true n (c ∷ cs) = by_cases (Shape q true n (c ∷ cs)) (c == q) (closing q false (n + 1) cs) (Some n)
    (λ e. second q n c cs (closing q false (n + 1) cs) (eqb-true c q e) (shape q false (n + 1) cs))
    (λ e. ([], c ∷ cs, refl, omega arith))
shape q false n (c ∷ cs) = by_cases (Shape q false n (c ∷ cs)) (c == q) (closing q true (n + 1) cs) (closing q false (n + 1) cs)
    (λ e. first q n c cs (closing q true (n + 1) cs) (eqb-true c q e) (shape q true (n + 1) cs))
    (λ e. plain q n c cs (closing q false (n + 1) cs) e (shape q false (n + 1) cs))

-- what quoted tokens of a quote are
pub record Quotes (q : ℕ) (kind : TokenKind) : Type 0 where
  pub not_nul : (q == 0) ≡ false
  pub lawful : (w rest : List ℕ) → IsQuoted q w → IsTrue (is_legal w) → IsToken kind w rest
  pub unlawful : (w rest : List ℕ) → IsQuoted q w → is_legal w ≡ false → IsToken k.Illegal w rest
  pub unclosed : (w : List ℕ) → IsUnquoted q w → IsToken k.Open w []

closed_front : (q : ℕ) (kind : TokenKind) → Quotes q kind → (cs : List ℕ) (r : Option ℕ) → Shape q false 0 cs r → Front (closed_token kind cs r) (q ∷ cs)
closed_front q kind quotes cs (Some m) (i, rest, split, len) =
    let body = doubled q i ++ q ∷ [] in
    let front : cs ≡ body ++ rest = split ∙ sym (append_assoc (doubled q i) (q ∷ []) rest) in
    let n : m ≡ length body = omega (arith, len, length-append (doubled q i) (q ∷ [])) in
    let taken : take m cs ≡ body = ap (λ (j : ℕ). take j cs) n ∙ ap (take (length body)) front ∙ take_front body rest in
    let whole : q ∷ cs ≡ (q ∷ body) ++ rest = ap (λ (t : List ℕ). q ∷ t) front in (
      q ∷ body,
      rest,
      whole,
      omega (arith, n),
      omega arith,
      subst (λ (t : List ℕ). IsToken (legal t kind) (q ∷ body) rest) (sym taken)
          (by_cases (λ (x : TokenKind). IsToken x (q ∷ body) rest) (list_all (λ c. not (c == 0)) body) kind k.Illegal
          (λ e. quotes.lawful (q ∷ body) rest (i, refl) (rw quotes.not_nul e))
          (λ e. quotes.unlawful (q ∷ body) rest (i, refl) (rw quotes.not_nul e))),
    )
closed_front q kind quotes cs None (i, split) =
    (q ∷ cs, [], sym (append-nil (q ∷ cs)), omega arith, omega arith, quotes.unclosed (q ∷ cs) (i, ap (λ (t : List ℕ). q ∷ t) split))

pub quoted_front : (q : ℕ) (kind : TokenKind) → Quotes q kind → (cs : List ℕ) → Front (quoted_token q kind cs) (q ∷ cs)
unfolding quoted_token
quoted_front q kind quotes cs = closed_front q kind quotes cs (closing q false 0 cs) (shape q false 0 cs)

-- ---- no longer one

inside_passes : (q n : ℕ) (inside r : List ℕ) → closing q false n (doubled q inside ++ r) ≡ closing q false (n + length (doubled q inside)) r
unfolding closing doubled
inside_passes q n [] r = let e : n + 0 ≡ n = omega arith in rw e refl
inside_passes q n (c ∷ cs) r = elim (told (c == q)) [
  | inl quote ↦ rw (quote, same q) (inside_passes q (n + 1 + 1) cs r ∙ ap (λ (m : ℕ). closing q false m r) (omega arith))
  | inr other ↦ rw (other, other) (inside_passes q (n + 1) cs r ∙ ap (λ (m : ℕ). closing q false m r) (omega arith))
]

behind_quote : (q n : ℕ) (r : List ℕ) → closing q false n (q ∷ r) ≡ closing q true (n + 1) r
unfolding closing
behind_quote q n r = rw (same q) refl

-- the kind that a closed text has
abbrev pub legal_kind : TokenKind → Bool → TokenKind
legal_kind kind b = cond b kind k.Illegal

closed_covers : (kind : TokenKind) (body r : List ℕ) (found : Option ℕ) (q n : ℕ) → length body ≡ n → (r ≡ [] → found ≡ Some n) → Shape q true n r found
    → Covers (closed_token kind (body ++ r) found) (legal_kind kind (list_all (λ c. not (c == 0)) body)) (suc (length body))
closed_covers kind body r (Some m) q n len none (i, rest, split, e) = elim (told (m == n)) [
  | inl equal ↦ (
      let m_is : m ≡ length body = eqb-true m n equal ∙ sym len in
      let taken : take m (body ++ r) ≡ body = ap (λ (j : ℕ). take j (body ++ r)) m_is ∙ take_front body r in
      inr (omega (arith, m_is), sym (ap (λ (t : List ℕ). legal t kind) taken)))
  | inr differs ↦ (let ne : m ≢ n = λ x. contradiction (m == n) (eq-eqb m n x) differs in inl (omega (arith, ne, e, len)))
]
closed_covers kind body [] None q n len none s = absurd (let e = none refl in cc)
closed_covers kind body (c ∷ cs) None q n len none s = inl (omega (arith, length-append body (c ∷ cs)))

at_end : (q n : ℕ) (r : List ℕ) → r ≡ [] → closing q true n r ≡ Some n
unfolding closing
at_end q n r e = rw e refl

pub quoted_covered : (q : ℕ) (kind : TokenKind) (inside r : List ℕ) → (q == 0) ≡ false → Covers (quoted_token q kind ((doubled q inside ++ q ∷ []) ++ r)) (legal_kind kind (is_legal (q ∷ doubled q inside ++ q ∷ []))) (suc (length (doubled q inside ++ q ∷ [])))
unfolding quoted_token
quoted_covered q kind inside r nq =
    let body = doubled q inside ++ q ∷ [] in
    let n = 0 + length (doubled q inside) + 1 in
    let len : length body ≡ n = omega (arith, length-append (doubled q inside) (q ∷ [])) in
    let found : closing q false 0 (body ++ r) ≡ closing q true n r = ap (closing q false 0) (append_assoc (doubled q inside) (q ∷ []) r) ∙ inside_passes q 0 inside (q ∷ r) ∙ behind_quote q (0 + length (doubled q inside)) r in
    rw (nq, found) (closed_covers kind body r (closing q true n r) q n len (at_end q n r) (shape q true n r))

pub unquoted_covered : (q : ℕ) (kind : TokenKind) (inside r : List ℕ) → r ≡ [] → Covers (quoted_token q kind (doubled q inside ++ r)) k.Open (suc (length (doubled q inside)))
unfolding quoted_token closing
unquoted_covered q kind inside r e =
    let none : closing q false 0 (doubled q inside ++ r) ≡ None = inside_passes q 0 inside r ∙ rw e refl in
    rw none (inr (omega (arith, length-append (doubled q inside) r, ap length e), refl))

-- ---- up to a byte

pub data Until (d : ℕ) (bs : List ℕ) : Type 0 where
  Ends : (part rest : List ℕ) → bs ≡ part ++ d ∷ rest → prefix_len (λ c. not (c == d)) bs ≡ length part → Each (λ c. not (c == d)) part → ltb (prefix_len (λ c. not (c == d)) bs) (length bs) ≡ true → Until d bs
  Never : Each (λ c. not (c == d)) bs → ltb (prefix_len (λ c. not (c == d)) bs) (length bs) ≡ false → Until d bs

pub is_end : (c d : ℕ) → not (c == d) ≡ false → c ≡ d
is_end c d e = elim (told (c == d)) [ inl s ↦ eqb-true c d s | inr o ↦ absurd (both_false (c == d) e o) ]
  where
    both_false : (b : Bool) → not b ≡ false → b ≡ false → ⊥
    both_false true e f = absurd cc
    both_false false e f = absurd cc

not_less : (a b : ℕ) → a ≡ b → ltb a b ≡ false
not_less a b e = elim (told (ltb a b)) [ inl lt ↦ (let h : a < b = ltb-true a b lt in absurd (omega (arith, h, e))) | inr ge ↦ ge ]

pub until : (d : ℕ) (bs : List ℕ) → Until d bs
until d bs = let r = run (λ c. not (c == d)) bs in at r.part r.rest r.split r.len r.each r.stops
  where
    at : (part rest : List ℕ) → bs ≡ part ++ rest → prefix_len (λ c. not (c == d)) bs ≡ length part → Each (λ c. not (c == d)) part → first_is (λ c. not (c == d)) rest ≡ false → Until d bs
    at part [] split len each stops =
        let all : bs ≡ part = split ∙ append-nil part in
        Never (subst (Each (λ c. not (c == d))) (sym all) each) (not_less _ _ (len ∙ ap length (sym all)))
    at part (c ∷ rest) split len each stops =
        Ends part rest (split ∙ ap (λ (x : ℕ). part ++ x ∷ rest) (is_end c d stops)) len each (lt-ltb _ _ (omega (arith, len, ap length split, length-append part (c ∷ rest))))

-- ---- brackets

pub bracketed_front : (cs : List ℕ) → Front (bracketed_token cs) (91 ∷ cs)
unfolding bracketed_token
bracketed_front cs = at (until 93 cs)
  where
    at : Until 93 cs → Front (bracketed_token cs) (91 ∷ cs)
    at (Ends part rest split len each lt) =
        let body = part ++ 93 ∷ [] in
        let n = prefix_len (λ c. not (c == 93)) cs in
        let front : cs ≡ body ++ rest = split ∙ sym (append_assoc part (93 ∷ []) rest) in
        let m : n + 1 ≡ length body = omega (arith, len, length-append part (93 ∷ [])) in
        let taken : take (n + 1) cs ≡ body = ap (λ (j : ℕ). take j cs) m ∙ ap (take (length body)) front ∙ take_front body rest in
        rw lt (
          91 ∷ body,
          rest,
          ap (λ (t : List ℕ). 91 ∷ t) front,
          omega (arith, m),
          omega arith,
          subst (λ (t : List ℕ). IsToken (legal t k.Ident) (91 ∷ body) rest) (sym taken)
              (by_cases (λ (x : TokenKind). IsToken x (91 ∷ body) rest) (list_all (λ c. not (c == 0)) body) k.Ident k.Illegal
              (λ e. inr (inr (inr (part, each, refl)), e))
              (λ e. inr (inr (inl (inl (inr (inr (part, each, refl))), e))))),
        )
    at (Never each ge) =
        rw ge (91 ∷ cs, [], sym (append-nil (91 ∷ cs)), omega arith, omega arith, (inr (inr (inr (inl (cs, each, refl)))), refl))

pub bracketed_covered : (inside r : List ℕ) → Each (λ c. not (c == 93)) inside → Covers (bracketed_token ((inside ++ 93 ∷ []) ++ r)) (legal_kind k.Ident (is_legal (91 ∷ inside ++ 93 ∷ []))) (suc (length (inside ++ 93 ∷ [])))
unfolding bracketed_token
bracketed_covered inside r each =
    let body = inside ++ 93 ∷ [] in
    let cs = body ++ r in
    let n : prefix_len (λ c. not (c == 93)) cs ≡ length inside = ap (prefix_len (λ c. not (c == 93))) (append_assoc inside (93 ∷ []) r) ∙ run_exact (λ c. not (c == 93)) inside (93 ∷ r) each refl in
    let m : length inside + 1 ≡ length body = omega (arith, length-append inside (93 ∷ [])) in
    let lt : ltb (length inside) (length cs) ≡ true = lt-ltb _ _ (omega (arith, m, length-append body r)) in
    rw (n, lt, m, take_front body r) (inr (omega (arith, m), refl))

pub open_bracket_covered : (inside r : List ℕ) → Each (λ c. not (c == 93)) inside → r ≡ [] → Covers (bracketed_token (inside ++ r)) k.Open (suc (length inside))
unfolding bracketed_token
open_bracket_covered inside r each e =
    let n : prefix_len (λ c. not (c == 93)) (inside ++ r) ≡ length inside = run_exact (λ c. not (c == 93)) inside r each (rw e refl) in
    let len : length inside ≡ length (inside ++ r) = omega (arith, length-append inside r, ap length e) in
    rw (n, not_less (length inside) (length (inside ++ r)) len) (inr (omega (arith, len), refl))

-- ---- blobs

pub blob_front : (x : ℕ) (cs : List ℕ) → IsTrue (x == 120 || x == 88) → Front (blob_token cs) (x ∷ 39 ∷ cs)
unfolding blob_token
blob_front x cs is_x = at (until 39 cs)
  where
    at : Until 39 cs → Front (blob_token cs) (x ∷ 39 ∷ cs)
    at (Ends part rest split len each lt) =
        let body = part ++ 39 ∷ [] in
        let n = prefix_len (λ c. not (c == 39)) cs in
        let front : cs ≡ body ++ rest = split ∙ sym (append_assoc part (39 ∷ []) rest) in
        let taken : take n cs ≡ part = ap (λ (j : ℕ). take j cs) len ∙ ap (take (length part)) split ∙ take_front part (39 ∷ rest) in
        rw (lt, taken, len) (
          x ∷ 39 ∷ body,
          rest,
          ap (λ (t : List ℕ). x ∷ 39 ∷ t) front,
          omega (arith, length-append part (39 ∷ [])),
          omega arith,
          by_cases (λ (y : TokenKind). IsToken y (x ∷ 39 ∷ body) rest) (length part % 2 == 0 && list_all is_ascii_hexdigit part) k.Blob k.Illegal
              (λ e. (part, (x, is_x, each, refl), e))
              (λ e. inr (inl (part, (x, is_x, each, refl), λ hex. contradiction (length part % 2 == 0 && list_all is_ascii_hexdigit part) hex e))),
        )
    at (Never each ge) =
        rw ge (x ∷ 39 ∷ cs, [], sym (append-nil (x ∷ 39 ∷ cs)), omega arith, omega arith, (inr (inr (inr (inr (x, cs, is_x, each, refl)))), refl))

pub blob_covered : (inside r : List ℕ) → Each (λ c. not (c == 39)) inside → Covers (blob_token ((inside ++ 39 ∷ []) ++ r)) (cond (length inside % 2 == 0 && list_all is_ascii_hexdigit inside) k.Blob k.Illegal) (suc (suc (length (inside ++ 39 ∷ []))))
unfolding blob_token
blob_covered inside r each =
    let body = inside ++ 39 ∷ [] in
    let cs = body ++ r in
    let split : cs ≡ inside ++ 39 ∷ r = append_assoc inside (39 ∷ []) r in
    let n : prefix_len (λ c. not (c == 39)) cs ≡ length inside = ap (prefix_len (λ c. not (c == 39))) split ∙ run_exact (λ c. not (c == 39)) inside (39 ∷ r) each refl in
    let m : length inside + 1 ≡ length body = omega (arith, length-append inside (39 ∷ [])) in
    let lt : ltb (length inside) (length cs) ≡ true = lt-ltb _ _ (omega (arith, m, length-append body r)) in
    let taken : take (length inside) cs ≡ inside = ap (take (length inside)) split ∙ take_front inside (39 ∷ r) in
    rw (n, lt, taken) (inr (omega (arith, m), refl))

pub open_blob_covered : (inside r : List ℕ) → Each (λ c. not (c == 39)) inside → r ≡ [] → Covers (blob_token (inside ++ r)) k.Open (suc (suc (length inside)))
unfolding blob_token
open_blob_covered inside r each e =
    let n : prefix_len (λ c. not (c == 39)) (inside ++ r) ≡ length inside = run_exact (λ c. not (c == 39)) inside r each (rw e refl) in
    let len : length inside ≡ length (inside ++ r) = omega (arith, length-append inside r, ap length e) in
    rw (n, not_less (length inside) (length (inside ++ r)) len) (inr (omega (arith, len), refl))
