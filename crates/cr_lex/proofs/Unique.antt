-- A text has one list of tokens.
use Rattle.std.proofs.Common.{◌≡◌, ◌⊎◌, inl, inr, ℕ, suc, ◌+◌, ◌-◌, ◌<◌, ◌≤◌, ◌==◌, Bool, true, false, not, ◌||◌, List, [], ◌∷◌, ◌++◌, length, take, drop, refl, sym, ap, subst, ◌∙◌, append_assoc, append-nil, arith}
use Rattle.std.specs.Prelude.{slice_range}
use Rattle.std.proofs.lemmas.Bool.{eqb-true}
use Rattle.std.proofs.lemmas.List.{length-append, length-take, length-drop, take-append-drop}
use Rattle.cr_lex.specs.declared.token.TokenKind.{TokenKind}
use Rattle.cr_lex.specs.declared.token.Token.{Token}
use Rattle.cr_lex.specs.Texts.{is_blank}
use Rattle.cr_lex.specs.Tokens.{Each, IsBlank, AreBlanks, IsGap, IsNext, IsTokens, has_end}
use Rattle.cr_lex.specs.Reading.{first_is, comment_len, blank_len}
use Rattle.cr_lex.proofs.Parts.{other_than, run_exact}
use Rattle.cr_lex.proofs.Gaps.{before, past}
use Rattle.cr_lex.proofs.Places.{at_front}

-- ---- how long a blank is

neither : (a b : Bool) → (a || b) ≡ false → (a ≡ false) × (b ≡ false)
neither true b e = absurd cc
neither false b e = (refl, e)

-- what is behind a byte has no end either
behind : (c : ℕ) (w : List ℕ) → has_end (c ∷ w) ≡ false → (b : Bool) → (c == 42) ≡ b → has_end (before b w) ≡ false
behind c w e true is = subst (λ (d : ℕ). has_end (d ∷ w) ≡ false) (eqb-true c 42 is) e
behind c w e false is = sym (past c w is) ∙ e

no_slash : (c : ℕ) (w : List ℕ) → has_end (42 ∷ c ∷ w) ≡ false → ((c == 47) ≡ false) × (has_end (c ∷ w) ≡ false)
unfolding has_end
no_slash c w e = neither (c == 47) (has_end (c ∷ w)) e

to_end : (star : Bool) (n : ℕ) (inside rest : List ℕ) → has_end (before star (inside ++ 42 ∷ [])) ≡ false → comment_len star n (inside ++ 42 ∷ 47 ∷ rest) ≡ n + length inside + 2
unfolding comment_len
to_end true n [] rest e = omega arith
to_end false n [] rest e = omega arith
to_end true n (c ∷ cs) rest e =
    let s = no_slash c (cs ++ 42 ∷ []) e in
    rw s.0 (to_end (c == 42) (n + 1) cs rest (behind c (cs ++ 42 ∷ []) s.1 (c == 42) refl) ∙ (omega arith))
to_end false n (c ∷ cs) rest e = to_end (c == 42) (n + 1) cs rest (behind c (cs ++ 42 ∷ []) e (c == 42) refl) ∙ (omega arith)

to_all : (star : Bool) (n : ℕ) (inside : List ℕ) → has_end (before star inside) ≡ false → comment_len star n inside ≡ n + length inside
unfolding comment_len
to_all star n [] e = omega arith
to_all true n (c ∷ cs) e =
    let s = no_slash c cs e in
    rw s.0 (to_all (c == 42) (n + 1) cs (behind c cs s.1 (c == 42) refl) ∙ (omega arith))
to_all false n (c ∷ cs) e = to_all (c == 42) (n + 1) cs (behind c cs e (c == 42) refl) ∙ (omega arith)

one_blank : (c : ℕ) (r : List ℕ) → is_blank c ≡ true → blank_len (c ∷ r) ≡ 1
unfolding blank_len
one_blank c [] e = rw e refl
one_blank c (d ∷ r) e = rw (other_than is_blank c 45 e refl, other_than is_blank c 47 e refl, e) refl

line_stops : (r : List ℕ) → (r ≡ []) ⊎ ((more : List ℕ) × (r ≡ 10 ∷ more)) → first_is (λ c. not (c == 10)) r ≡ false
line_stops r (inl e) = rw e refl
line_stops r (inr (more, e)) = rw e refl

line_len : (inside r : List ℕ) → Each (λ c. not (c == 10)) inside → (r ≡ []) ⊎ ((more : List ℕ) × (r ≡ 10 ∷ more)) → blank_len (45 ∷ 45 ∷ (inside ++ r)) ≡ suc (suc (length inside))
unfolding blank_len
line_len inside r each ends = let n = run_exact (λ c. not (c == 10)) inside r each (line_stops r ends) in omega (arith, n)

block_len : (inside r : List ℕ) → has_end (inside ++ 42 ∷ []) ≡ false → blank_len (47 ∷ 42 ∷ ((inside ++ 42 ∷ 47 ∷ []) ++ r)) ≡ suc (suc (length (inside ++ 42 ∷ 47 ∷ [])))
unfolding blank_len
block_len inside r e =
    let n = to_end false 0 inside r e in
    let same : comment_len false 0 ((inside ++ 42 ∷ 47 ∷ []) ++ r) ≡ comment_len false 0 (inside ++ 42 ∷ 47 ∷ r) = ap (comment_len false 0) (append_assoc inside (42 ∷ 47 ∷ []) r) in
    omega (arith, n, same, length-append inside (42 ∷ 47 ∷ []))

open_len : (inside r : List ℕ) → has_end inside ≡ false → r ≡ [] → blank_len (47 ∷ 42 ∷ (inside ++ r)) ≡ suc (suc (length inside))
unfolding blank_len
open_len inside r e end =
    let n = to_all false 0 inside e in
    let same : comment_len false 0 (inside ++ r) ≡ comment_len false 0 inside = ap (λ (t : List ℕ). comment_len false 0 (inside ++ t)) end ∙ ap (comment_len false 0) (append-nil inside) in
    omega (arith, n, same)

blank_exact : (w r : List ℕ) → IsBlank w r → blank_len (w ++ r) ≡ length w
blank_exact w r (inl (c, blank, is)) = rw is (one_blank c r blank)
blank_exact w r (inr (inl (inside, each, is, ends))) = rw is (line_len inside r each ends)
blank_exact w r (inr (inr (inside, inl (none, is)))) = rw is (block_len inside r none)
blank_exact w r (inr (inr (inside, inr (none, is, end)))) = rw is (open_len inside r none end)

blank_place : (text : List ℕ) (from end : ℕ) → from < end → end ≤ length text → IsBlank (slice_range text from end) (drop end text) → end ≡ from + blank_len (drop from text)
blank_place text from end lt le b =
    let bs = drop from text in
    let n = end - from in
    let exact = blank_exact (take n bs) (drop n bs) (at_front IsBlank text from end (omega arith) b) in
    let whole : blank_len (take n bs ++ drop n bs) ≡ blank_len bs = ap blank_len (take-append-drop n bs) in
    omega (arith, exact, whole, length-take n bs, length-drop from text, lt, le)

-- ---- one gap

NoBlank : List ℕ → ℕ → Type 0
NoBlank text at = (end : ℕ) → at < end → end ≤ length text → IsBlank (slice_range text at end) (drop end text) → ⊥

blanks_end : (text : List ℕ) (from : ℕ) (ends others : List ℕ) (a b : ℕ) → AreBlanks text from ends a → AreBlanks text from others b → NoBlank text a → NoBlank text b → a ≡ b
unfolding NoBlank
blanks_end text from [] [] a b h g none never = sym h ∙ g
blanks_end text from [] (f ∷ fs) a b h g none never = absurd (subst (NoBlank text) (sym h) none f g.0 g.1 g.2)
blanks_end text from (e ∷ es) [] a b h g none never = absurd (subst (NoBlank text) (sym g) never e h.0 h.1 h.2)
blanks_end text from (e ∷ es) (f ∷ fs) a b h g none never =
    let same : f ≡ e = blank_place text from f g.0 g.1 g.2 ∙ sym (blank_place text from e h.0 h.1 h.2) in
    blanks_end text e es fs a b h.3 (subst (λ (x : ℕ). AreBlanks text x fs b) same g.3) none never

one_gap : (text : List ℕ) (from a b : ℕ) → IsGap text from a → IsGap text from b → a ≡ b
unfolding NoBlank
one_gap text from a b g h = blanks_end text from g.ends h.ends a b g.blanks h.blanks g.longest h.longest

-- ---- one token

one_next : (text : List ℕ) (kind other : TokenKind) (from to end : ℕ) → IsNext text kind from to → IsNext text other from end → (kind ≡ other) × (to ≡ end)
one_next text kind other from to end n m = elim (n.longest other end m.in_order m.in_text m.spelled) [
  | inl less ↦ elim (m.longest kind to n.in_order n.in_text n.spelled) [
    | inl more ↦ absurd (omega (arith, less, more))
    | inr same ↦ (same.1, same.0)
  ]
  | inr same ↦ (sym same.1, sym same.0)
]

abbrev token : TokenKind → ℕ → ℕ → Token
token kind from to = record { kind = kind; from = from; to = to }

same_token : (t u : Token) → t.kind ≡ u.kind → t.from ≡ u.from → t.to ≡ u.to → t ≡ u
same_token t u a b c = ap (λ (x : TokenKind). token x t.from t.to) a ∙ ap (λ (x : ℕ). token u.kind x t.to) b ∙ ap (λ (x : ℕ). token u.kind u.from x) c

pub one_list : (text : List ℕ) (at : ℕ) (some others : List Token) → IsTokens text at some → IsTokens text at others → some ≡ others
one_list text at [] [] a b = refl
one_list text at [] (u ∷ us) a b = let end = one_gap text at (length text) u.from a b.0 in absurd (omega (arith, end, b.1.in_order, b.1.in_text))
one_list text at (t ∷ ts) [] a b = let end = one_gap text at (length text) t.from b a.0 in absurd (omega (arith, end, a.1.in_order, a.1.in_text))
one_list text at (t ∷ ts) (u ∷ us) a b =
    let from = one_gap text at t.from u.from a.0 b.0 in
    let next = one_next text t.kind u.kind t.from t.to u.to a.1 (subst (λ (x : ℕ). IsNext text u.kind x u.to) (sym from) b.1) in
    let more = one_list text t.to ts us a.2 (subst (λ (x : ℕ). IsTokens text x us) (sym next.1) b.2) in
    ap (λ (x : Token). x ∷ ts) (same_token t u next.0 from next.1) ∙ ap (λ (l : List Token). u ∷ l) more
