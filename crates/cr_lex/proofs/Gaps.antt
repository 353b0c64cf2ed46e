-- What is skipped at the front is a blank or comment.
use Rattle.std.proofs.Common.{◌≡◌, ◌⊎◌, inl, inr, ℕ, ◌+◌, ◌<◌, ◌≤◌, ◌==◌, Bool, true, false, cond, not, ◌&&◌, List, [], ◌∷◌, ◌++◌, length, take, drop, get_or, refl, sym, ap, subst, ◌∙◌, append_assoc, append-nil, arith}
use Rattle.std.specs.List.{prefix_len}
use Rattle.std.proofs.lemmas.Bool.{eqb-true}
use Rattle.std.proofs.lemmas.List.{length-append, take-append-drop}
use Rattle.cr_lex.specs.Texts.{is_blank}
use Rattle.cr_lex.specs.Tokens.{IsBlank, has_end}
use Rattle.cr_lex.specs.Reading.{first_is, comment_len, blank_len}
use Rattle.cr_lex.proofs.Parts.{both, by_cases, run, take_front, drop_front}
use Rattle.cr_lex.proofs.Quoting.{is_end}

-- a blank or comment at the front, and what follows
abbrev FrontBlank : ℕ → List ℕ → Type 0
FrontBlank n bs = (n ≡ 0) ⊎ ((w : List ℕ) × (rest : List ℕ) × (bs ≡ w ++ rest) × (n ≡ length w) × IsBlank w rest)

-- ---- comments over lines

abbrev extra : Bool → ℕ
extra true = 1
extra false = 0

abbrev pub before : Bool → List ℕ → List ℕ
before true bs = 42 ∷ bs
before false bs = bs

-- what is left of a comment ends with its `*/`, or it never does
abbrev Left : Bool → ℕ → List ℕ → ℕ → Type 0
Left star n bs m =
    ((inside : List ℕ) × (rest : List ℕ) × (before star bs ≡ inside ++ 42 ∷ 47 ∷ rest) × (has_end (inside ++ 42 ∷ []) ≡ false) × (m + extra star ≡ n + length inside + 2))
    ⊎ ((has_end (before star bs) ≡ false) × (m ≡ n + length bs))

pub past : (c : ℕ) (bs : List ℕ) → (c == 42) ≡ false → has_end (c ∷ bs) ≡ has_end bs
unfolding has_end
past c [] e = refl
past c (b ∷ bs) e = rw e refl

one_on : (n m c : ℕ) (cs : List ℕ) → Left (c == 42) (n + 1) cs m → Left false n (c ∷ cs) m
one_on n m c cs h = at (c == 42) refl h
  where
    at : (b : Bool) → (c == 42) ≡ b → Left b (n + 1) cs m → Left false n (c ∷ cs) m
    at true e (inl (inside, rest, split, none, len)) = inl (inside, rest, ap (λ (d : ℕ). d ∷ cs) (eqb-true c 42 e) ∙ split, none, omega (arith, len))
    at true e (inr (none, len)) = inr (ap (λ (d : ℕ). has_end (d ∷ cs)) (eqb-true c 42 e) ∙ none, omega (arith, len))
    at false e (inl (inside, rest, split, none, len)) = inl (c ∷ inside, rest, ap (λ (t : List ℕ). c ∷ t) split, past c (inside ++ 42 ∷ []) e ∙ none, omega (arith, len))
    at false e (inr (none, len)) = inr (past c cs e ∙ none, omega (arith, len))

star_before : (c : ℕ) (cs inside rest : List ℕ) → (c == 47) ≡ false → c ∷ cs ≡ inside ++ rest → has_end (inside ++ 42 ∷ []) ≡ false → has_end (42 ∷ (inside ++ 42 ∷ [])) ≡ false
unfolding has_end
star_before c cs [] rest e split none = refl
star_before c cs (d ∷ inside) rest e split none =
    let same : c ≡ d = ap (λ (t : List ℕ). get_or t 0 0) split in
    let other : (d == 47) ≡ false = subst (λ (x : ℕ). (x == 47) ≡ false) same e in
    rw other none

behind_star : (n m c : ℕ) (cs : List ℕ) → (c == 47) ≡ false → Left false n (c ∷ cs) m → Left true n (c ∷ cs) m
unfolding has_end
behind_star n m c cs e (inl (inside, rest, split, none, len)) = inl (42 ∷ inside, rest, ap (λ (t : List ℕ). 42 ∷ t) split, star_before c cs inside (42 ∷ 47 ∷ rest) e split none, omega (arith, len))
behind_star n m c cs e (inr (none, len)) = inr (rw e none, len)

left : (star : Bool) (n : ℕ) (bs : List ℕ) → Left star n bs (comment_len star n bs)
unfolding comment_len has_end
left true n [] = inr (refl, omega arith)
left false n [] = inr (refl, omega arith)
left true n (c ∷ cs) = by_cases (Left true n (c ∷ cs)) (c == 47) (n + 1) (comment_len (c == 42) (n + 1) cs)
    (λ e. inl ([], cs, ap (λ (d : ℕ). 42 ∷ d ∷ cs) (eqb-true c 47 e), refl, omega arith))
    (λ e. behind_star n (comment_len (c == 42) (n + 1) cs) c cs e (one_on n (comment_len (c == 42) (n + 1) cs) c cs (left (c == 42) (n + 1) cs)))
left false n (c ∷ cs) = one_on n (comment_len (c == 42) (n + 1) cs) c cs (left (c == 42) (n + 1) cs)

block_front : (a b : ℕ) (cs : List ℕ) → a ≡ 47 → b ≡ 42 → FrontBlank (2 + comment_len false 0 cs) (a ∷ b ∷ cs)
block_front a b cs e f = elim (left false 0 cs) [
  | inl (inside, rest, split, none, len) ↦ inr (
    47 ∷ 42 ∷ inside ++ 42 ∷ 47 ∷ [],
    rest,
    starts ∙ ap (λ (t : List ℕ). 47 ∷ 42 ∷ t) (split ∙ sym (append_assoc inside (42 ∷ 47 ∷ []) rest)),
    omega (arith, len, length-append inside (42 ∷ 47 ∷ [])),
    inr (inr (inside, inl (none, refl))),
  )
  | inr (none, len) ↦ inr (47 ∷ 42 ∷ cs, [], starts ∙ sym (append-nil (47 ∷ 42 ∷ cs)), omega (arith, len), inr (inr (cs, inr (none, refl, refl))))
]
  where
    starts : a ∷ b ∷ cs ≡ 47 ∷ 42 ∷ cs
    starts = ap (λ (d : ℕ). d ∷ b ∷ cs) e ∙ ap (λ (d : ℕ). 47 ∷ d ∷ cs) f

-- ---- comments to the end of a line

line_ends : (rest : List ℕ) → first_is (λ c. not (c == 10)) rest ≡ false → (rest ≡ []) ⊎ ((more : List ℕ) × (rest ≡ 10 ∷ more))
line_ends [] e = inl refl
line_ends (c ∷ cs) e = inr (cs, ap (λ (d : ℕ). d ∷ cs) (is_end c 10 e))

line_front : (a b : ℕ) (cs : List ℕ) → a ≡ 45 → b ≡ 45 → FrontBlank (2 + prefix_len (λ c. not (c == 10)) cs) (a ∷ b ∷ cs)
line_front a b cs e f =
    let r = run (λ c. not (c == 10)) cs in
    inr (
      45 ∷ 45 ∷ r.part,
      r.rest,
      ap (λ (d : ℕ). d ∷ b ∷ cs) e ∙ ap (λ (d : ℕ). 45 ∷ d ∷ cs) f ∙ ap (λ (t : List ℕ). 45 ∷ 45 ∷ t) r.split,
      omega (arith, r.len),
      inr (inl (r.part, r.each, refl, line_ends r.rest r.stops)),
    )

-- ---- all of them

one_blank : (c : ℕ) (cs : List ℕ) → FrontBlank (cond (is_blank c) 1 0) (c ∷ cs)
one_blank c cs = by_cases (λ n. FrontBlank n (c ∷ cs)) (is_blank c) 1 0 (λ e. inr (c ∷ [], cs, refl, refl, inl (c, e, refl))) (λ e. inl refl)

blank_front : (bs : List ℕ) → FrontBlank (blank_len bs) bs
unfolding blank_len
blank_front [] = inl refl
blank_front (a ∷ []) = one_blank a []
blank_front (a ∷ b ∷ cs) =
    by_cases (λ n. FrontBlank n (a ∷ b ∷ cs)) (a == 45 && b == 45) _ _ (λ e. let t = both (a == 45) (b == 45) e in line_front a b cs (eqb-true a 45 t.0) (eqb-true b 45 t.1)) (λ no_line.
    by_cases (λ n. FrontBlank n (a ∷ b ∷ cs)) (a == 47 && b == 42) _ _ (λ e. let t = both (a == 47) (b == 42) e in block_front a b cs (eqb-true a 47 t.0) (eqb-true b 42 t.1)) (λ no_block.
    one_blank a (b ∷ cs)))

spelled : (n : ℕ) (bs : List ℕ) → 0 < n → FrontBlank n bs → (n ≤ length bs) × IsBlank (take n bs) (drop n bs)
spelled n bs some (inl none) = absurd (omega (arith, some, none))
spelled n bs some (inr (w, rest, split, len, is)) = (omega (arith, len, ap length split, length-append w rest), rw (split, len) (rw (take_front w rest, drop_front w rest) is))

pub blank_spelled : (bs : List ℕ) → 0 < blank_len bs → (blank_len bs ≤ length bs) × IsBlank (take (blank_len bs) bs) (drop (blank_len bs) bs)
blank_spelled bs h = spelled (blank_len bs) bs h (blank_front bs)

some_way : (a b : Bool) (m n : ℕ) → 0 < cond a (2 + m) (cond b (2 + n) 1)
some_way true b m n = omega arith
some_way false true m n = omega arith
some_way false false m n = omega arith

blank_some : (w r : List ℕ) → IsBlank w r → 0 < blank_len (w ++ r)
unfolding blank_len
blank_some w [] (inl (c, blank, is)) = rw is (rw blank (omega arith))
blank_some w (d ∷ r) (inl (c, blank, is)) = rw is (rw blank (some_way (c == 45 && d == 45) (c == 47 && d == 42) _ _))
blank_some w r (inr (inl (inside, each, is, ends))) = rw is (omega arith)
blank_some w r (inr (inr (inside, inl (none, is)))) = rw is (omega arith)
blank_some w r (inr (inr (inside, inr (none, is, end)))) = rw is (omega arith)

pub no_blank : (bs : List ℕ) (m : ℕ) → blank_len bs ≡ 0 → 0 < m → m ≤ length bs → IsBlank (take m bs) (drop m bs) → ⊥
no_blank bs m e p l t =
    let some : 0 < blank_len bs = subst (λ (x : List ℕ). 0 < blank_len x) (take-append-drop m bs) (blank_some (take m bs) (drop m bs) t) in
    omega (arith, e, some)
