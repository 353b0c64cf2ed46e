-- A text that is put together of tokens, from its front.
use Rattle.std.proofs.Common.{◌≡◌, ℕ, zero, suc, ◌+◌, ◌-◌, ◌<◌, ◌≤◌, Bool, true, false, cond, List, [], ◌∷◌, ◌++◌, length, drop, take, refl, sym, append_assoc, ap, subst, ◌∙◌, arith}
use Rattle.std.specs.Prelude.{◌≢◌, IsTrue}
use Rattle.std.specs.List.{scan}
use Rattle.std.proofs.Math.Seq.{drop-nil}
use Rattle.std.proofs.lemmas.List.{length-append, length-drop}
use Rattle.cr_lex.specs.declared.token.TokenKind.{TokenKind}
use Rattle.cr_lex.specs.declared.token.Token.{Token}
use Rattle.cr_lex.specs.Tokens.{IsGap, IsNext, IsTokens}
use Rattle.cr_lex.specs.Reading.{token_at, blank_len}
use Rattle.cr_lex.proofs.Parts.{drop_front, take_front}
use Rattle.cr_lex.proofs.Numbers.{some_length}
use Rattle.cr_lex.proofs.Places.{gap_more, gap_done, next_token}
use Rattle.cr_lex.proofs.Unique.{one_list}
use Rattle.cr_tree.specs.declared.symbol.Symbol.{Symbol}
use Rattle.cr_lex.specs.Spelling.{spelling}
use Rattle.cr_lex.specs.Symbols.{symbol, symbol_of, greatest_of, symbols_of}
use Rattle.cr_pieces.specs.Pieces.{Piece, written, text, symbols, start, token, tokens, may_follow, IsPiece, AreWritten, may_end, spaced}

drop_again : (l : List ℕ) (a b : ℕ) → drop b (drop a l) ≡ drop (a + b) l
drop_again l zero b = let e : 0 + b ≡ b = omega arith in rw e refl
drop_again [] (suc a) b = let e : suc a + b ≡ suc (a + b) = omega arith in rw e (drop-nil b)
drop_again (c ∷ cs) (suc a) b = let e : suc a + b ≡ suc (a + b) = omega arith in rw e (drop_again cs a b)

-- what is left of a text behind a part
behind : (whole a b : List ℕ) (at : ℕ) → drop at whole ≡ a ++ b → drop (at + length a) whole ≡ b
behind whole a b at e = sym (drop_again whole at (length a)) ∙ ap (drop (length a)) e ∙ drop_front a b

space_len : (rest : List ℕ) → blank_len (32 ∷ rest) ≡ 1
unfolding blank_len
space_len [] = refl
space_len (c ∷ cs) = refl

-- from a place to a space's end, or here
gap_here : (whole : List ℕ) (at : ℕ) → at ≤ length whole → blank_len (drop at whole) ≡ 0 → IsGap whole at at
gap_here whole at le none = gap_done whole at at le none ([], refl)

gap_space : (whole rest : List ℕ) (at : ℕ) → at ≤ length whole → drop at whole ≡ 32 ∷ rest → blank_len rest ≡ 0 → IsGap whole at (at + 1)
gap_space whole rest at le e none =
    let one : blank_len (drop at whole) ≡ 1 = ap blank_len e ∙ space_len rest in
    let more = gap_more whole at at le (omega (arith, one)) ([], refl) in
    let end : at + blank_len (drop at whole) ≡ at + 1 = omega (arith, one) in
    let left : drop (at + 1) whole ≡ rest = behind whole (32 ∷ []) rest at e in
    subst (IsGap whole at) end (gap_done whole at (at + blank_len (drop at whole)) more.0 (ap (λ (n : ℕ). blank_len (drop n whole)) end ∙ ap blank_len left ∙ none) more.1)

next_is : (whole : List ℕ) (p : Piece) (rest : List ℕ) (from : ℕ) → IsPiece p → IsTrue (may_follow p.next rest) → drop from whole ≡ p.bytes ++ rest → IsNext whole p.kind from (from + length p.bytes)
next_is whole p rest from is fits e =
    let t : token_at (drop from whole) ≡ (p.kind, length p.bytes) = ap token_at e ∙ is.one_token rest fits in
    let some = some_length p.bytes is.some in
    let lt : from < length whole = omega (arith, length-drop from whole, ap length e, length-append p.bytes rest, some) in
    subst (λ (x : TokenKind × ℕ). IsNext whole x.0 from (from + x.1)) t (next_token whole from lt).1

begins : (whole bytes rest : List ℕ) (at : ℕ) (apart : Bool) → at ≤ length whole → blank_len (bytes ++ rest) ≡ 0 → drop at whole ≡ cond apart (32 ∷ bytes) bytes ++ rest
    → IsGap whole at (cond apart (at + 1) at) × (drop (cond apart (at + 1) at) whole ≡ bytes ++ rest)
begins whole bytes rest at true le none e = (gap_space whole (bytes ++ rest) at le e none, behind whole (32 ∷ []) (bytes ++ rest) at e)
begins whole bytes rest at false le none e = (gap_here whole at le (ap blank_len e ∙ none), e)

tokens_at : (whole : List ℕ) (at : ℕ) (ps : List Piece) → AreWritten ps → at ≤ length whole → drop at whole ≡ text ps → IsTokens whole at (tokens at ps)
unfolding blank_len
tokens_at whole at [] are le e =
    let end : length whole ≡ at = omega (arith, length-drop at whole, ap length e, le) in
    subst (IsGap whole at) (sym end) (gap_here whole at le (ap blank_len e))
tokens_at whole at (p ∷ ps) (is, fits, more) le e =
    let b = begins whole p.bytes (text ps) at p.apart le (is.no_blank (text ps) fits) e in
    let n = next_is whole p (text ps) (start at p) is fits b.1 in
    (b.0, n, tokens_at whole (start at p + length p.bytes) ps more n.in_text (behind whole p.bytes (text ps) (start at p) b.1))

lexed : (ps : List Piece) → AreWritten ps → IsTokens (text ps) 0 (tokens 0 ps)
lexed ps are = tokens_at (text ps) 0 ps are (omega arith) refl

-- ---- symbols

spelled : (whole : List ℕ) (p : Piece) (rest : List ℕ) (from : ℕ) → drop from whole ≡ p.bytes ++ rest → spelling whole (token from p) ≡ p.bytes
spelled whole p rest from e =
    let n : (from + length p.bytes) - from ≡ length p.bytes = omega arith in
    ap (λ (m : ℕ). take m (drop from whole)) n ∙ ap (take (length p.bytes)) e ∙ take_front p.bytes rest

symbols_at : (whole : List ℕ) (at greatest : ℕ) (ps : List Piece) → AreWritten ps → at ≤ length whole → drop at whole ≡ text ps
    → scan (greatest_of whole) (symbol_of whole) greatest (tokens at ps) ≡ symbols ps
unfolding symbol_of
symbols_at whole at greatest [] are le e = refl
symbols_at whole at greatest (p ∷ ps) (is, fits, more) le e =
    let b = begins whole p.bytes (text ps) at p.apart le (is.no_blank (text ps) fits) e in
    let n = next_is whole p (text ps) (start at p) is fits b.1 in
    let next = greatest_of whole greatest (token (start at p) p) in
    let here : symbol_of whole greatest (token (start at p) p) ≡ p.symbol = ap (symbol p.kind greatest) (spelled whole p (text ps) (start at p) b.1) ∙ is.one_symbol greatest in
    let there = symbols_at whole (start at p + length p.bytes) next ps more n.in_text (behind whole p.bytes (text ps) (start at p) b.1) in
    ap (λ (x : Symbol). x ∷ scan (greatest_of whole) (symbol_of whole) next (tokens (start at p + length p.bytes) ps)) here ∙ ap (λ (l : List Symbol). p.symbol ∷ l) there

pub read : (ps : List Piece) → AreWritten ps → IsTokens (text ps) 0 (tokens 0 ps) × (symbols_of (text ps) (tokens 0 ps) ≡ symbols ps)
read ps are = (lexed ps are, symbols_at (text ps) 0 0 ps are (omega arith) refl)

pub read_one_way : (ps : List Piece) → AreWritten ps → (found : List Token) → IsTokens (text ps) 0 found → (found ≡ tokens 0 ps) × (symbols_of (text ps) found ≡ symbols ps)
read_one_way ps are found h =
    let r = read ps are in
    let same = one_list (text ps) 0 found (tokens 0 ps) h r.0 in
    (same, ap (symbols_of (text ps)) same ∙ r.1)

-- ---- one text behind another

pub text_joined : (ps qs : List Piece) → text (ps ++ qs) ≡ text ps ++ text qs
text_joined [] qs = refl
text_joined (p ∷ ps) qs = ap (λ (l : List ℕ). written p ++ l) (text_joined ps qs) ∙ sym (append_assoc (written p) (text ps) (text qs))

pub symbols_joined : (ps qs : List Piece) → symbols (ps ++ qs) ≡ symbols ps ++ symbols qs
symbols_joined [] qs = refl
symbols_joined (p ∷ ps) qs = ap (λ (l : List Symbol). p.symbol ∷ l) (symbols_joined ps qs)

follows_more : (next : ℕ → Bool) (bytes rest more : List ℕ) (apart : Bool) → bytes ≢ [] → may_follow next (cond apart (32 ∷ bytes) bytes ++ rest) ≡ may_follow next (cond apart (32 ∷ bytes) bytes ++ more)
follows_more next bytes rest more true some = refl
follows_more next [] rest more false some = absurd (some refl)
follows_more next (c ∷ cs) rest more false some = refl

pub written_joined : (ps qs : List Piece) → AreWritten ps → AreWritten qs → IsTrue (may_end ps (text qs)) → AreWritten (ps ++ qs)
written_joined [] qs are others end = others
written_joined (p ∷ []) qs are others end = (are.0, end, others)
written_joined (p ∷ q ∷ ps) qs (is, fits, more) others end =
    (is, subst IsTrue (follows_more p.next q.bytes (text ps) (text (ps ++ qs)) q.apart more.0.some) fits, written_joined (q ∷ ps) qs more others end)

pub may_end_joined : (ps : List Piece) (q : Piece) (qs : List Piece) (rest : List ℕ) → may_end (ps ++ q ∷ qs) rest ≡ may_end (q ∷ qs) rest
may_end_joined [] q qs rest = refl
may_end_joined (p ∷ []) q qs rest = refl
may_end_joined (p ∷ r ∷ ps) q qs rest = may_end_joined (r ∷ ps) q qs rest

-- ---- behind a space

pub spaced_is : (p : Piece) → IsPiece p → IsPiece (record p { apart = true })
spaced_is p is = record { some = is.some; no_blank = is.no_blank; one_token = is.one_token; one_symbol = is.one_symbol }

pub written_spaced : (ps : List Piece) → AreWritten ps → AreWritten (spaced ps)
written_spaced [] are = are
written_spaced (p ∷ ps) are = (spaced_is p are.0, are.1, are.2)

pub symbols_spaced : (ps : List Piece) → symbols (spaced ps) ≡ symbols ps
symbols_spaced [] = refl
symbols_spaced (p ∷ ps) = refl

pub spaced_follows : (next : ℕ → Bool) (ps : List Piece) → may_follow next (text (spaced ps)) ≡ true
spaced_follows next [] = refl
spaced_follows next (p ∷ ps) = refl

pub spaced_ends : (ps qs : List Piece) → may_end ps (text (spaced qs)) ≡ true
spaced_ends [] qs = refl
spaced_ends (p ∷ []) qs = spaced_follows p.next qs
spaced_ends (p ∷ q ∷ ps) qs = spaced_ends (q ∷ ps) qs

pub may_end_spaced : (ps : List Piece) (rest : List ℕ) → may_end (spaced ps) rest ≡ may_end ps rest
may_end_spaced [] rest = refl
may_end_spaced (p ∷ []) rest = refl
may_end_spaced (p ∷ q ∷ ps) rest = refl
