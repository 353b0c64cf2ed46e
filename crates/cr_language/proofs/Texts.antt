-- Each text has tokens.
use Rattle.std.proofs.Common.{◌≡◌, ℕ, zero, suc, ◌+◌, ◌-◌, ◌<◌, ◌≤◌, Bool, true, false, List, [], ◌∷◌, length, drop, refl, ap, subst, arith}
use Rattle.std.specs.Prelude.{nat_lt, if◌then◌else◌}
use Rattle.std.proofs.lemmas.Bool.{ltb-false, ltb-true}
use Rattle.cr_lex.specs.Tokens.{AreBlanks, IsGap, IsTokens}
use Rattle.cr_lex.specs.Reading.{token_at, blank_len}
use Rattle.cr_lex.proofs.Places.{gap_more, gap_done, gap_in_order, next_token}
use Rattle.cr_language.specs.Texts.{gap_on, gap_in, gap_end, token_and, tokens_in, TextsHaveTokens}

-- blanks lead up to a place
abbrev Led : List ℕ → ℕ → ℕ → Type 0
Led text start from = (ends : List ℕ) × AreBlanks text start ends from

all_dropped : (text : List ℕ) (n : ℕ) → length text ≤ n → drop n text ≡ []
all_dropped [] zero le = refl
all_dropped [] (suc n) le = refl
all_dropped (c ∷ cs) zero le = absurd (omega (arith, le))
all_dropped (c ∷ cs) (suc n) le = all_dropped cs n (omega (arith, le))

-- gaps end in so many turns
abbrev GapsEnd : ℕ → Type 0
GapsEnd n = (text : List ℕ) (start from : ℕ) → from ≤ length text → length text - from ≤ n → Led text start from → IsGap text start (gap_in n text from)

gap_goes : (n : ℕ) → GapsEnd n → (text : List ℕ) (start from : ℕ) → from ≤ length text → length text - from ≤ suc n → Led text start from
    → (k : ℕ) → blank_len (drop from text) ≡ k → IsGap text start (gap_on (gap_in n text) from k)
gap_goes n further text start from le few led zero e = gap_done text start from le e led
gap_goes n further text start from le few led (suc k) e =
    let m = gap_more text start from le (omega (arith, e)) led in
    further text start (from + suc k) (omega (arith, m.0, e)) (omega (arith, few)) (subst (λ (i : ℕ). Led text start (from + i)) e m.1)

gap_ends : (n : ℕ) → GapsEnd n
unfolding blank_len gap_in
gap_ends zero text start from le few led =
    let none : blank_len (drop from text) ≡ 0 = ap blank_len (all_dropped text from (omega (arith, few))) in
    gap_done text start from le none led
gap_ends (suc n) text start from le few led = gap_goes n (gap_ends n) text start from le few led (blank_len (drop from text)) refl

is_gap : (text : List ℕ) (from : ℕ) → from ≤ length text → IsGap text from (gap_end text from)
is_gap text from le = gap_ends (length text) text from from le (omega arith) ([], refl)

-- tokens follow in so many turns
abbrev TokensFollow : ℕ → Type 0
TokensFollow n = (text : List ℕ) (from : ℕ) → from ≤ length text → length text - from < n → IsTokens text from (tokens_in n text from)

tokens_go : (n : ℕ) → TokensFollow n → (text : List ℕ) (from at : ℕ) → length text - from < suc n → IsGap text from at
    → (b : Bool) → nat_lt at (length text) ≡ b → IsTokens text from (if b then token_and (tokens_in n text) text at else [])
tokens_go n further text from at few g true e =
    let lt : at < length text = ltb-true at (length text) e in
    let t = next_token text at lt in
    let next : ℕ = at + (token_at (drop at text)).1 in
    let in_text : next ≤ length text = t.1.in_text in
    (g, t.1, further text next in_text (omega (arith, few, lt, t.0, gap_in_order text from at g)))
tokens_go n further text from at few g false e =
    let same : at ≡ length text = omega (arith, ltb-false at (length text) e, g.in_text) in
    subst (IsGap text from) same g

tokens_follow : (n : ℕ) → TokensFollow n
unfolding tokens_in
tokens_follow zero text from le few = absurd (omega (arith, few))
tokens_follow (suc n) text from le few =
    tokens_go n (tokens_follow n) text from (gap_end text from) few (is_gap text from le) (nat_lt (gap_end text from) (length text)) refl

pub have_tokens : TextsHaveTokens
have_tokens text = tokens_follow (suc (length text)) text 0 (omega arith) (omega arith)
