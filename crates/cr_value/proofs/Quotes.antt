-- Quoted texts: how one is written, and how it is read again.
use Rattle.std.proofs.Common.{◌≡◌, ◌≢◌, ℕ, suc, ◌+◌, ◌<◌, ◌≤◌, ◌==◌, Bool, true, false, cond, List, [], ◌∷◌, ◌++◌, length, drop, get_or, Option, Some, None, refl, sym, ap, ◌∙◌, append_assoc, arith}
use Rattle.std.proofs.lemmas.Bool.{eqb-true}
use Rattle.std.proofs.lemmas.List.{drop_more, at_drop_all, append-nil}
use Rattle.std.proofs.lemmas.Str.{IsUtf8-drop}
use Rattle.std.specs.Char.{len_utf8}
use Rattle.std.specs.Str.{IsUtf8}
use Rattle.std.specs.Str.Pattern.{FindsChar}
use Rattle.cr_value.specs.Literal.{doubled, is_control}
use Rattle.cr_value.specs.Reading.{with_byte, closed_at}
use Rattle.cr_value.specs.Unpacking.{◌>>=◌}

-- ---- writing

not_quote : (c : ℕ) (xs ys : List ℕ) (b : Bool) → b ≡ false → cond b xs ys ≡ ys
not_quote c xs ys b e = rw e refl

never : (b : Bool) → (b ≡ true → ⊥) → b ≡ false
never true h = absurd (h refl)
never false h = refl

pub differs : (c : ℕ) → c ≢ 39 → (c == 39) ≡ false
differs c h = never (c == 39) (λ e. h (eqb-true c 39 e))

-- a part without quotes is written as it is
pub doubled-append : (xs ys : List ℕ) → ((i : ℕ) → i < length xs → get_or xs i 0 ≢ 39) → doubled (xs ++ ys) ≡ xs ++ doubled ys
unfolding doubled
doubled-append [] ys h = refl
doubled-append (x ∷ xs) ys h =
    rw (differs x (h 0 (omega arith))) (ap (λ (t : List ℕ). x ∷ t) (doubled-append xs ys (λ i lt. h (suc i) (omega arith))))

pub doubled_plain : (xs : List ℕ) → ((i : ℕ) → i < length xs → get_or xs i 0 ≢ 39) → doubled xs ≡ xs
unfolding doubled
doubled_plain [] h = refl
doubled_plain (x ∷ xs) h = rw (differs x (h 0 (omega arith))) (ap (λ (t : List ℕ). x ∷ t) (doubled_plain xs (λ i lt. h (suc i) (omega arith))))

pub doubled_at_quote : (xs ys : List ℕ) → ((i : ℕ) → i < length xs → get_or xs i 0 ≢ 39) → doubled (xs ++ 39 ∷ ys) ≡ xs ++ (39 ∷ 39 ∷ doubled ys)
unfolding doubled
doubled_at_quote xs ys h = doubled-append xs (39 ∷ ys) h

pub next_quote : (out before after rest then last all : List ℕ) → (rest ≡ before ++ 39 ∷ after) × ((i : ℕ) → i < length before → get_or before i 0 ≢ 39) → then ≡ out ++ before → last ≡ then ++ 39 ∷ 39 ∷ []
    → out ++ doubled rest ≡ all → last ++ doubled after ≡ all
next_quote out before after rest then last all parts e f g =
    let written : last ≡ (out ++ before) ++ 39 ∷ 39 ∷ [] = f ∙ ap (λ (t : List ℕ). t ++ 39 ∷ 39 ∷ []) e in
    let split : doubled rest ≡ before ++ (39 ∷ 39 ∷ doubled after) = ap doubled parts.0 ∙ doubled_at_quote before after parts.1 in
    rw (written, append_assoc (out ++ before) (39 ∷ 39 ∷ []) (doubled after), append_assoc out before (39 ∷ 39 ∷ doubled after), ← split) g

pub no_more_quotes : (out rest last all : List ℕ) → ((i : ℕ) → i < length rest → get_or rest i 0 ≢ 39) → last ≡ out ++ rest → out ++ doubled rest ≡ all → last ≡ all
no_more_quotes out rest last all none e g = e ∙ ap (λ (t : List ℕ). out ++ t) (sym (doubled_plain rest none)) ∙ g

pub utf8_after : (rest after : List ℕ) (i j : ℕ) → FindsChar 39 rest (Some (i, j)) → after ≡ drop j rest → IsUtf8 rest → IsUtf8 after
utf8_after rest after i j found e u = rw (e, found.1.ends) (IsUtf8-drop rest (i + len_utf8 39) u found.1.after)

-- ---- reading, as a loop does

-- what was read before, and what is still read
abbrev pub with_front : List ℕ → Option (List ℕ × List ℕ) → Option (List ℕ × List ℕ)
with_front front read = read >>= λ x. Some (front ++ x.0, x.1)

pub front_moves : (front : List ℕ) (c : ℕ) (read : Option (List ℕ × List ℕ)) → with_front (front ++ c ∷ []) read ≡ with_front front (with_byte c read)
front_moves front c (Some x) = ap (λ (t : List ℕ). Some (t, x.1)) (append_assoc front (c ∷ []) x.0)
front_moves front c None = refl

-- one byte on
pub at_quote : (front rest : List ℕ) (i : ℕ) (all : Option (List ℕ × List ℕ)) → i < length rest → (get_or rest i 0 == 39) ≡ true
    → with_front front (closed_at false (drop i rest)) ≡ all → with_front front (closed_at true (drop (i + 1) rest)) ≡ all
unfolding closed_at
at_quote front rest i all lt q e = sym (ap (λ (t : List ℕ). with_front front (closed_at false t)) (drop_more rest i 0 lt) ∙ rw q refl) ∙ e

pub at_second_quote : (front rest : List ℕ) (i : ℕ) (all : Option (List ℕ × List ℕ)) → i < length rest → (get_or rest i 0 == 39) ≡ true
    → with_front front (closed_at true (drop i rest)) ≡ all → with_front (front ++ 39 ∷ []) (closed_at false (drop (i + 1) rest)) ≡ all
unfolding closed_at
at_second_quote front rest i all lt q e =
    front_moves front 39 (closed_at false (drop (i + 1) rest)) ∙ sym (ap (λ (t : List ℕ). with_front front (closed_at true t)) (drop_more rest i 0 lt) ∙ rw q refl) ∙ e

pub at_byte : (front rest : List ℕ) (i : ℕ) (all : Option (List ℕ × List ℕ)) → i < length rest → (get_or rest i 0 == 39) ≡ false → is_control (get_or rest i 0) ≡ false
    → with_front front (closed_at false (drop i rest)) ≡ all → with_front (front ++ get_or rest i 0 ∷ []) (closed_at false (drop (i + 1) rest)) ≡ all
unfolding closed_at
at_byte front rest i all lt q k e =
    front_moves front (get_or rest i 0) (closed_at false (drop (i + 1) rest)) ∙ sym (ap (λ (t : List ℕ). with_front front (closed_at false t)) (drop_more rest i 0 lt) ∙ rw (q, k) refl) ∙ e

pub at_control : (front rest : List ℕ) (i : ℕ) (all : Option (List ℕ × List ℕ)) → i < length rest → (get_or rest i 0 == 39) ≡ false → is_control (get_or rest i 0) ≡ true
    → with_front front (closed_at false (drop i rest)) ≡ all → all ≡ None
unfolding closed_at
at_control front rest i all lt q k e = sym e ∙ ap (λ (t : List ℕ). with_front front (closed_at false t)) (drop_more rest i 0 lt) ∙ rw (q, k) refl

some_front : (front after : List ℕ) → with_front front (Some ([], after)) ≡ Some (front, after)
some_front front after = ap (λ (t : List ℕ). Some (t, after)) (append-nil front)

pub at_end_of_text : (front rest : List ℕ) (i : ℕ) (all : Option (List ℕ × List ℕ)) → i < length rest → (get_or rest i 0 == 39) ≡ false
    → with_front front (closed_at true (drop i rest)) ≡ all → all ≡ Some (front, drop i rest)
unfolding closed_at
at_end_of_text front rest i all lt q e =
    let at = drop_more rest i 0 lt in
    sym e ∙ ap (λ (t : List ℕ). with_front front (closed_at true t)) at ∙ rw q (some_front front (get_or rest i 0 ∷ drop (i + 1) rest)) ∙ ap (λ (t : List ℕ). Some (front, t)) (sym at)

pub at_end_of_input : (front rest : List ℕ) (i : ℕ) (all : Option (List ℕ × List ℕ)) → length rest ≤ i → with_front front (closed_at true (drop i rest)) ≡ all → all ≡ Some (front, [])
unfolding closed_at
at_end_of_input front rest i all le e = sym e ∙ at_drop_all (λ (t : List ℕ). with_front front (closed_at true t)) rest i le ∙ some_front front []

pub never_closed : (front rest : List ℕ) (i : ℕ) (all : Option (List ℕ × List ℕ)) → length rest ≤ i → with_front front (closed_at false (drop i rest)) ≡ all → all ≡ None
unfolding closed_at
never_closed front rest i all le e = sym e ∙ at_drop_all (λ (t : List ℕ). with_front front (closed_at false t)) rest i le
