-- Doubled quotes, one byte after another.
use Rattle.std.proofs.Common.{◌≡◌, ◌⊎◌, inl, inr, ℕ, ◌+◌, ◌-◌, ◌<◌, ◌≤◌, ◌==◌, ◌&&◌, Bool, true, false, cond, List, [], ◌∷◌, ◌++◌, length, take, drop, get_or, refl, sym, ap, ◌∙◌, append_assoc, append-nil, arith}
use Rattle.std.proofs.lemmas.Bool.{eq-eqb, eqb-true}
use Rattle.std.proofs.lemmas.List.{drop_more, at_drop_all, length-append}
use Rattle.cr_lex.specs.Tokens.{doubled}
use Rattle.cr_lex.proofs.Parts.{told, take_front}
use Rattle.cr_lex.specs.Spelling.{inside, undoubled}

-- what is left of the bytes; the test says whether a quote stands before, that a second one would double
unfoldable pub left : Bool → ℕ → List ℕ → List ℕ
left false quote cs = undoubled quote cs
left true quote [] = []
left true quote (c ∷ cs) = cond (c == quote) (undoubled quote cs) (undoubled quote (c ∷ cs))

either : (a b : Bool) (c : ℕ) (x y : List ℕ) → c ∷ cond (a && b) x y ≡ c ∷ cond a (cond b x y) y
either true b c x y = refl
either false b c x y = refl

same : (a : Bool) (c : ℕ) (x : List ℕ) → c ∷ x ≡ c ∷ cond a x x
same true c x = refl
same false c x = refl

chosen : (a : Bool) (quote : ℕ) (cs : List ℕ) → cond a (left true quote cs) (left false quote cs) ≡ left a quote cs
chosen true quote cs = refl
chosen false quote cs = refl

one : (quote c : ℕ) (cs : List ℕ) → undoubled quote (c ∷ cs) ≡ c ∷ left (c == quote) quote cs
unfolding undoubled left
one quote c [] = same (c == quote) c [] ∙ ap (λ (t : List ℕ). c ∷ t) (chosen (c == quote) quote [])
one quote c (d ∷ ds) = either (c == quote) (d == quote) c (undoubled quote ds) (undoubled quote (d ∷ ds)) ∙ ap (λ (t : List ℕ). c ∷ t) (chosen (c == quote) quote (d ∷ ds))

step : (after : Bool) (quote c : ℕ) (cs : List ℕ) → left after quote (c ∷ cs) ≡ cond (after && c == quote) (left false quote cs) (c ∷ left (c == quote) quote cs)
unfolding left
step false quote c cs = one quote c cs
step true quote c cs = ap (cond (c == quote) (undoubled quote cs)) (one quote c cs)

here : (after b : Bool) (quote : ℕ) (bytes : List ℕ) (i : ℕ) → i < length bytes → (after && get_or bytes i 0 == quote) ≡ b
    → left after quote (drop i bytes) ≡ cond b (left false quote (drop (i + 1) bytes)) (get_or bytes i 0 ∷ left (get_or bytes i 0 == quote) quote (drop (i + 1) bytes))
here after b quote bytes i lt test =
    ap (left after quote) (drop_more bytes i 0 lt)
    ∙ step after quote (get_or bytes i 0) (drop (i + 1) bytes)
    ∙ ap (λ (x : Bool). cond x (left false quote (drop (i + 1) bytes)) (get_or bytes i 0 ∷ left (get_or bytes i 0 == quote) quote (drop (i + 1) bytes))) test

pub at_second : (front bytes all : List ℕ) (i : ℕ) (after : Bool) (quote : ℕ) → i < length bytes → after ≡ true → get_or bytes i 0 ≡ quote
    → front ++ left after quote (drop i bytes) ≡ all → front ++ left false quote (drop (i + 1) bytes) ≡ all
at_second front bytes all i after quote lt a e h =
    let test : (after && get_or bytes i 0 == quote) ≡ true = rw a (eq-eqb (get_or bytes i 0) quote e) in
    ap (λ (t : List ℕ). front ++ t) (sym (here after true quote bytes i lt test)) ∙ h

pub at_other : (front bytes all : List ℕ) (i : ℕ) (after : Bool) (quote : ℕ) → i < length bytes → (after && get_or bytes i 0 == quote) ≡ false
    → front ++ left after quote (drop i bytes) ≡ all → (front ++ get_or bytes i 0 ∷ []) ++ left (get_or bytes i 0 == quote) quote (drop (i + 1) bytes) ≡ all
at_other front bytes all i after quote lt test h =
    append_assoc front (get_or bytes i 0 ∷ []) (left (get_or bytes i 0 == quote) quote (drop (i + 1) bytes))
    ∙ ap (λ (t : List ℕ). front ++ t) (sym (here after false quote bytes i lt test)) ∙ h

pub no_second : (after : Bool) (quote c : ℕ) → (after ≡ false) ⊎ (c ≡ quote → ⊥) → (after && c == quote) ≡ false
no_second after quote c (inl e) = rw e refl
no_second true quote c (inr h) = elim (told (c == quote)) [ inl same ↦ absurd (h (eqb-true c quote same)) | inr other ↦ other ]
no_second false quote c (inr h) = refl

pub left_end : (front bytes all : List ℕ) (i : ℕ) (after : Bool) (quote : ℕ) → length bytes ≤ i → front ++ left after quote (drop i bytes) ≡ left false quote all → front ≡ undoubled quote all
unfolding undoubled left
left_end front bytes all i true quote le h = sym (append-nil front) ∙ ap (λ (t : List ℕ). front ++ t) (sym (at_drop_all (left true quote) bytes i le)) ∙ h
left_end front bytes all i false quote le h = sym (append-nil front) ∙ ap (λ (t : List ℕ). front ++ t) (sym (at_drop_all (left false quote) bytes i le)) ∙ h

-- ---- what was put in quotes

other : (quote c : ℕ) (cs : List ℕ) → (c == quote) ≡ false → undoubled quote (c ∷ cs) ≡ c ∷ undoubled quote cs
unfolding undoubled
other quote c [] e = refl
other quote c (d ∷ ds) e = rw e refl

twice : (quote : ℕ) (cs : List ℕ) → undoubled quote (quote ∷ quote ∷ cs) ≡ quote ∷ undoubled quote cs
unfolding undoubled
twice quote cs = rw (eq-eqb quote quote refl) refl

once : (quote : ℕ) (w : List ℕ) → undoubled quote (doubled quote w) ≡ w
unfolding undoubled doubled
once quote [] = refl
once quote (c ∷ cs) = elim (told (c == quote)) [
  | inl same ↦ rw same (twice quote (doubled quote cs) ∙ ap (λ (t : List ℕ). quote ∷ t) (once quote cs) ∙ ap (λ (d : ℕ). d ∷ cs) (sym (eqb-true c quote same)))
  | inr differs ↦ rw differs (other quote c (doubled quote cs) differs ∙ ap (λ (t : List ℕ). c ∷ t) (once quote cs))
]

front : (w : List ℕ) (q : ℕ) → take (length (w ++ q ∷ []) - 1) (w ++ q ∷ []) ≡ w
front w q =
    let n : length (w ++ q ∷ []) - 1 ≡ length w = omega (arith, length-append w (q ∷ [])) in
    ap (λ (k : ℕ). take k (w ++ q ∷ [])) n ∙ take_front w (q ∷ [])

pub come_off : (quote : ℕ) (w : List ℕ) → undoubled quote (inside 1 (quote ∷ doubled quote w ++ quote ∷ [])) ≡ w
come_off quote w = ap (undoubled quote) (front (doubled quote w) quote) ∙ once quote w
