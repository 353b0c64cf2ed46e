-- The tokens of a whole text, from the one at the front.
use Rattle.std.proofs.Common.{◌≡◌, inl, inr, ℕ, zero, suc, ◌+◌, ◌-◌, ◌<◌, ◌≤◌, List, [], ◌∷◌, ◌++◌, length, take, drop, refl, sym, ap, subst, ◌∙◌, append_assoc, append-nil, arith}
use Rattle.std.specs.Prelude.{slice_range}
use Rattle.std.proofs.lemmas.List.{length-drop}
use Rattle.cr_lex.specs.declared.token.Token.{Token}
use Rattle.cr_lex.specs.Tokens.{IsToken, IsBlank, AreBlanks, IsGap, IsNext, IsTokens}
use Rattle.cr_lex.specs.Reading.{token_at, blank_len}
use Rattle.cr_lex.proofs.Gaps.{blank_spelled, no_blank}
use Rattle.cr_lex.proofs.Theory.{token_spelled, token_longest}

none_left : (b : ℕ) → drop {A = ℕ} b [] ≡ []
none_left zero = refl
none_left (suc b) = refl

drop_drop : (text : List ℕ) (a b : ℕ) → drop b (drop a text) ≡ drop (a + b) text
drop_drop text zero b = let e : 0 + b ≡ b = omega arith in rw e refl
drop_drop [] (suc a) b = let e : suc a + b ≡ suc (a + b) = omega arith in rw e (none_left b)
drop_drop (c ∷ cs) (suc a) b = let e : suc a + b ≡ suc (a + b) = omega arith in rw e (drop_drop cs a b)

-- from a place on is from the front of what is left
pub at_front : (P : List ℕ → List ℕ → Type 0) (text : List ℕ) (from end : ℕ) → from ≤ end → P (slice_range text from end) (drop end text) → P (take (end - from) (drop from text)) (drop (end - from) (drop from text))
at_front P text from end le h =
    let e : from + (end - from) ≡ end = omega arith in
    subst (P (take (end - from) (drop from text))) (sym (drop_drop text from (end - from) ∙ ap (λ (n : ℕ). drop n text) e)) h

in_place : (P : List ℕ → List ℕ → Type 0) (text : List ℕ) (from n : ℕ) → P (take n (drop from text)) (drop n (drop from text)) → P (slice_range text from (from + n)) (drop (from + n) text)
in_place P text from n h =
    let e : (from + n) - from ≡ n = omega arith in
    subst (λ (m : ℕ). P (take m (drop from text)) (drop (from + n) text)) (sym e) (subst (P (take n (drop from text))) (drop_drop text from n) h)

-- ---- gaps

blanks_more : (text : List ℕ) (from : ℕ) (ends : List ℕ) (mid to : ℕ) → AreBlanks text from ends mid → (mid < to) × (to ≤ length text) × IsBlank (slice_range text mid to) (drop to text) → AreBlanks text from (ends ++ to ∷ []) to
blanks_more text from [] mid to e h = subst (λ (f : ℕ). (f < to) × (to ≤ length text) × IsBlank (slice_range text f to) (drop to text) × (to ≡ to)) (sym e) (h.0, h.1, h.2, refl)
blanks_more text from (end ∷ ends) mid to e h = (e.0, e.1, e.2, blanks_more text end ends mid to e.3 h)

pub gap_more : (text : List ℕ) (from to : ℕ) → to ≤ length text → 0 < blank_len (drop to text) → ((ends : List ℕ) × AreBlanks text from ends to) → (to + blank_len (drop to text) ≤ length text) × ((ends : List ℕ) × AreBlanks text from ends (to + blank_len (drop to text)))
gap_more text from to le p h =
    let n = blank_len (drop to text) in
    let s = blank_spelled (drop to text) p in
    let fits : to + n ≤ length text = omega (arith, s.0, length-drop to text) in
    (fits, (h.0 ++ (to + n) ∷ [], blanks_more text from h.0 to (to + n) h.1 (omega arith, fits, in_place IsBlank text to n s.1)))

pub gap_done : (text : List ℕ) (from to : ℕ) → to ≤ length text → blank_len (drop to text) ≡ 0 → ((ends : List ℕ) × AreBlanks text from ends to) → IsGap text from to
gap_done text from to le z h = record {
  in_text = le;
  ends = h.0;
  blanks = h.1;
  longest = λ end lt fits b. no_blank (drop to text) (end - to) z (omega arith) (omega (arith, length-drop to text)) (at_front IsBlank text to end (omega arith) b);
}

blanks_in_order : (text : List ℕ) (from : ℕ) (ends : List ℕ) (to : ℕ) → AreBlanks text from ends to → from ≤ to
blanks_in_order text from [] to e = omega (arith, e)
blanks_in_order text from (end ∷ ends) to e = omega (arith, e.0, blanks_in_order text end ends to e.3)

pub gap_in_order : (text : List ℕ) (from to : ℕ) → IsGap text from to → from ≤ to
gap_in_order text from to g = blanks_in_order text from g.ends to g.blanks

-- ---- tokens

pub next_token : (text : List ℕ) (from : ℕ) → from < length text → (0 < (token_at (drop from text)).1) × IsNext text (token_at (drop from text)).0 from (from + (token_at (drop from text)).1)
next_token text from lt =
    let bs = drop from text in
    let n = (token_at bs).1 in
    let some : 0 < length bs = omega (arith, length-drop from text) in
    let s = token_spelled bs some in (
      s.0,
      record {
        in_order = omega (arith, s.0);
        in_text = omega (arith, s.1, length-drop from text);
        spelled = in_place (IsToken (token_at bs).0) text from n s.2;
        longest = λ other end lt fits t.
            elim (token_longest bs other (end - from) (omega arith) (omega (arith, length-drop from text)) (at_front (IsToken other) text from end (omega arith) t)) [
              | inl less ↦ inl (omega (arith, less))
              | inr same ↦ inr (omega (arith, same.0), same.1)
            ];
      },
    )

-- The next token begins here, or the text ends.
abbrev pub Follow : List ℕ → ℕ → List Token → Type 0
Follow text from [] = from ≡ length text
Follow text from (t ∷ ts) = (t.from ≡ from) × IsNext text t.kind t.from t.to × IsTokens text t.to ts

pub behind_gap : (text : List ℕ) (at from : ℕ) (ts : List Token) → IsGap text at from → Follow text from ts → IsTokens text at ts
behind_gap text at from [] g f = subst (IsGap text at) f g
behind_gap text at from (t ∷ ts) g f = (subst (IsGap text at) (sym f.0) g, f.1, f.2)

-- what was found is the front of each list that goes on with it
abbrev pub Begun : List ℕ → List Token → ℕ → Type 0
Begun text found from = (ts : List Token) → Follow text from ts → IsTokens text 0 (found ++ ts)

pub begin : (text : List ℕ) (from : ℕ) → IsGap text 0 from → Begun text [] from
begin text from g = λ ts f. behind_gap text 0 from ts g f

pub one_more : (text : List ℕ) (found : List Token) (t : Token) (next : ℕ) → IsNext text t.kind t.from t.to → IsGap text t.to next → Begun text found t.from → Begun text (found ++ t ∷ []) next
one_more text found t next n g b = λ ts f. subst (IsTokens text 0) (sym (append_assoc found (t ∷ []) ts)) (b (t ∷ ts) (refl, n, behind_gap text t.to next ts g f))

pub ended : (text : List ℕ) (found : List Token) (from : ℕ) → from ≡ length text → Begun text found from → IsTokens text 0 found
ended text found from e b = subst (IsTokens text 0) (append-nil found) (b [] e)
