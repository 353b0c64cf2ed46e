-- Texts with quotes doubled, as a loop writes them.
use Rattle.std.proofs.Common.{◌≡◌, ◌≢◌, ℕ, suc, ◌+◌, ◌<◌, ◌==◌, Bool, true, false, List, [], ◌∷◌, ◌++◌, length, drop, get_or, Some, refl, sym, ap, ◌∙◌, append_assoc, arith}
use Rattle.std.proofs.lemmas.Bool.{eqb-true}
use Rattle.std.proofs.Math.Dec.{T, eqb_refl}
use Rattle.std.proofs.lemmas.Str.{IsUtf8-drop}
use Rattle.std.specs.Char.{len_utf8}
use Rattle.std.specs.Str.{IsUtf8}
use Rattle.std.specs.Str.Pattern.{FindsChar}
use Rattle.cr_lex.specs.Tokens.{doubled}

never : (b : Bool) → (b ≡ true → ⊥) → b ≡ false
never true h = absurd (h refl)
never false h = refl

differs : (q c : ℕ) → c ≢ q → (c == q) ≡ false
differs q c h = never (c == q) (λ e. h (eqb-true c q e))

-- a part without quotes is written as it is
doubled-append : (q : ℕ) (xs ys : List ℕ) → ((i : ℕ) → i < length xs → get_or xs i 0 ≢ q) → doubled q (xs ++ ys) ≡ xs ++ doubled q ys
unfolding doubled
doubled-append q [] ys h = refl
doubled-append q (x ∷ xs) ys h =
    rw (differs q x (h 0 (omega arith))) (ap (λ (t : List ℕ). x ∷ t) (doubled-append q xs ys (λ i lt. h (suc i) (omega arith))))

doubled_plain : (q : ℕ) (xs : List ℕ) → ((i : ℕ) → i < length xs → get_or xs i 0 ≢ q) → doubled q xs ≡ xs
unfolding doubled
doubled_plain q [] h = refl
doubled_plain q (x ∷ xs) h = rw (differs q x (h 0 (omega arith))) (ap (λ (t : List ℕ). x ∷ t) (doubled_plain q xs (λ i lt. h (suc i) (omega arith))))

holds : (b : Bool) → T b → b ≡ true
holds true h = refl
holds false h = absurd h

itself : (q : ℕ) → (q == q) ≡ true
itself q = holds (q == q) (eqb_refl q)

at_quote : (q : ℕ) (ys : List ℕ) → doubled q (q ∷ ys) ≡ q ∷ q ∷ doubled q ys
unfolding doubled
at_quote q ys = rw (itself q) refl

doubled_at_quote : (q : ℕ) (xs ys : List ℕ) → ((i : ℕ) → i < length xs → get_or xs i 0 ≢ q) → doubled q (xs ++ q ∷ ys) ≡ xs ++ (q ∷ q ∷ doubled q ys)
doubled_at_quote q xs ys h = doubled-append q xs (q ∷ ys) h ∙ ap (λ (t : List ℕ). xs ++ t) (at_quote q ys)

pub next_quote : (q : ℕ) (pair out before after rest then last all : List ℕ) → pair ≡ q ∷ q ∷ [] → (rest ≡ before ++ q ∷ after) × ((i : ℕ) → i < length before → get_or before i 0 ≢ q) → then ≡ out ++ before → last ≡ then ++ pair
    → out ++ doubled q rest ≡ all → last ++ doubled q after ≡ all
next_quote q pair out before after rest then last all p parts e f g =
    let written : last ≡ (out ++ before) ++ q ∷ q ∷ [] = f ∙ ap (λ (t : List ℕ). t ++ pair) e ∙ ap (λ (t : List ℕ). (out ++ before) ++ t) p in
    let split : doubled q rest ≡ before ++ (q ∷ q ∷ doubled q after) = ap (doubled q) parts.0 ∙ doubled_at_quote q before after parts.1 in
    rw (written, append_assoc (out ++ before) (q ∷ q ∷ []) (doubled q after), append_assoc out before (q ∷ q ∷ doubled q after), ← split) g

pub no_more_quotes : (q : ℕ) (out rest last all : List ℕ) → ((i : ℕ) → i < length rest → get_or rest i 0 ≢ q) → last ≡ out ++ rest → out ++ doubled q rest ≡ all → last ≡ all
no_more_quotes q out rest last all none e g = e ∙ ap (λ (t : List ℕ). out ++ t) (sym (doubled_plain q rest none)) ∙ g

pub utf8_after : (q : ℕ) (rest after : List ℕ) (i j : ℕ) → FindsChar q rest (Some (i, j)) → after ≡ drop j rest → IsUtf8 rest → IsUtf8 after
utf8_after q rest after i j found e u = rw (e, found.1.ends) (IsUtf8-drop rest (i + len_utf8 q) u found.1.after)
