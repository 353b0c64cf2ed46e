-- The symbols of a text's tokens are what tokens are seen as.
use Rattle.std.proofs.Common.{◌≡◌, inl, inr, ℕ, zero, suc, ◌+◌, ◌-◌, Bool, true, false, not, if◌then◌else◌, nat_le, ◌&&◌, ◌||◌, ◌==◌, List, [], ◌∷◌, length, take, drop, Option, Some, None, Result, Ok, Err, ℤ, pos, negsuc, refl, sym, ◌∙◌, ap, subst, arith, slice_index}
use Rattle.std.specs.Prelude.{FitsSigned}
use Rattle.std.specs.Int.{w64, cast_signed}
use Rattle.std.specs.List.{list_all, scan}
use Rattle.std.specs.Option.{option_map_or}
use Rattle.std.specs.Str.{is_utf8, str_to_ascii_lowercase}
use Rattle.std.specs.Char.{to_ascii_lowercase}
use Rattle.std.proofs.lemmas.Bool.{leb-true}
use Rattle.std.proofs.lemmas.Str.Ascii.{lowercase-lowercase}
use borrow.Author.Gap.{read_sfits}
use Rattle.hex.specs.Hex.{decode_of}
use Rattle.hex.specs.declared.error.FromHexError.{FromHexError}
use Rattle.hex.proofs.HexLemmas.{decode_of-ok}
use Rattle.cr_lex.specs.declared.token.Token.{Token}
use Rattle.cr_lex.specs.declared.token.TokenKind.{TokenKind}
use Rattle.cr_lex.specs.declared.token.TokenKind.TheVariants as t
use Rattle.cr_lex.specs.Texts.{is_start, is_more}
use Rattle.cr_lex.specs.Tokens.{Each, IsToken, IsTokens, IsWord, is_legal}
use Rattle.cr_lex.proofs.Parts.{both, other_than}
use Rattle.cr_tree.specs.declared.symbol.Mark.{Mark}
use Rattle.cr_tree.specs.declared.symbol.Symbol.{Symbol}
use Rattle.cr_tree.specs.declared.symbol.Symbol.TheVariants as k
use Rattle.cr_lex.specs.Marks.{marked, words, signs, outside_word}
use Rattle.cr_lex.specs.Spelling.{spelling, inside, undoubled, number, hex_digits}
use Rattle.cr_lex.specs.Symbols.{text_of, name_symbol, word_symbol, ident_symbol, bits_symbol, bounded, decimal_symbol, int_symbol, decoded, blob_symbol, param, given_param, param_symbol, sign_symbol, symbol, symbol_of, greatest_of, symbols_of}
use Rattle.cr_roundtrip.specs.Printed.{All, IsSeen, InRange}

-- ---- without U+0000

abbrev Legal : List ℕ → Type 0
Legal w = is_legal w ≡ true

not_zero : (c : ℕ) → not (c == 0) ≡ true → not (to_ascii_lowercase c == 0) ≡ true
not_zero zero h = absurd (cc)
not_zero (suc c) h = grind (arith)

legal_lower : (w : List ℕ) → Legal w → Legal (str_to_ascii_lowercase w)
legal_lower [] h = refl
legal_lower (c ∷ cs) h = let p = both (not (c == 0)) (is_legal cs) h in rw (not_zero c p.0) (legal_lower cs p.1)

lower_twice : (w : List ℕ) → str_to_ascii_lowercase (str_to_ascii_lowercase w) ≡ str_to_ascii_lowercase w
lower_twice [] = refl
lower_twice (c ∷ cs) = ap (λ z. z ∷ str_to_ascii_lowercase (str_to_ascii_lowercase cs)) (lowercase-lowercase c) ∙ ap (λ z. to_ascii_lowercase c ∷ z) (lower_twice cs)

legal_drop : (n : ℕ) (w : List ℕ) → Legal w → Legal (drop n w)
legal_drop zero w h = h
legal_drop (suc n) [] h = refl
legal_drop (suc n) (c ∷ cs) h = legal_drop n cs (both (not (c == 0)) (is_legal cs) h).1

legal_take : (n : ℕ) (w : List ℕ) → Legal w → Legal (take n w)
legal_take zero w h = refl
legal_take (suc n) [] h = refl
legal_take (suc n) (c ∷ cs) h = let p = both (not (c == 0)) (is_legal cs) h in rw p.0 (legal_take n cs p.1)

legal_inside : (n : ℕ) (w : List ℕ) → Legal w → Legal (inside n w)
legal_inside n w h = legal_take (length (drop n w) - 1) (drop n w) (legal_drop n w h)

legal_once : (q : ℕ) (w : List ℕ) → Legal w → Legal (undoubled q w)
unfolding undoubled
legal_once q [] h = refl
legal_once q (c ∷ []) h = h
legal_once q (c ∷ d ∷ cs) h = let p = both (not (c == 0)) (is_legal (d ∷ cs)) h in rw p.0 (by (c == q && d == q) (legal_once q cs (both (not (d == 0)) (is_legal cs) p.1).1) (legal_once q (d ∷ cs) p.1))
  where
    by : (b : Bool) → Legal (undoubled q cs) → Legal (undoubled q (d ∷ cs)) → Legal (if b then undoubled q cs else undoubled q (d ∷ cs))
    by true x y = x
    by false x y = y

more_legal : (w : List ℕ) → Each is_more w → Legal w
more_legal [] h = refl
more_legal (c ∷ cs) h = let p = both (is_more c) (list_all is_more cs) h in rw (other_than is_more c 0 p.0 refl) (more_legal cs p.1)

word_legal : (w : List ℕ) → IsWord w → Legal w
word_legal w (c, more, starts, each, is) = subst Legal (sym is) (rw (other_than is_start c 0 starts refl) (more_legal more each))

-- ---- each kind

texts_seen : (f : List ℕ → Symbol) → (w : List ℕ) → ((is_utf8 w ≡ true) → IsSeen (f w)) → IsSeen (option_map_or f (text_of w) k.Other)
texts_seen f w h = by (is_utf8 w) refl
  where
    by : (b : Bool) → is_utf8 w ≡ b → IsSeen (option_map_or f (if b then Some w else None) k.Other)
    by true e = h e
    by false e = tt

name_seen : (w : List ℕ) → Legal w → IsSeen (name_symbol w)
name_seen w h = texts_seen k.Name (str_to_ascii_lowercase w) (λ e. ((e, legal_lower w h), lower_twice w))

word_seen : (w : List ℕ) → Legal w → IsSeen (word_symbol w)
word_seen w h = by (marked words w) (outside_word w)
  where
    by : (x : Option Mark) (o : Option (List ℕ)) → IsSeen (option_map_or k.Mark x (option_map_or (λ _. k.Other) o (name_symbol w)))
    by (Some x) o = tt
    by None (Some o) = tt
    by None None = name_seen w h

ident_seen : (w : List ℕ) → Legal w → IsSeen (ident_symbol w)
ident_seen w h = by (slice_index w 0 == 34 || slice_index w 0 == 96) (slice_index w 0 == 91)
  where
    by : (a b : Bool) → IsSeen (if a then name_symbol (undoubled (slice_index w 0) (inside 1 w)) else if b then name_symbol (inside 1 w) else word_symbol w)
    by true b = name_seen (undoubled (slice_index w 0) (inside 1 w)) (legal_once (slice_index w 0) (inside 1 w) (legal_inside 1 w h))
    by false true = name_seen (inside 1 w) (legal_inside 1 w h)
    by false false = word_seen w h

in_range : (n : ℕ) → InRange (cast_signed w64 n)
in_range n = at (cast_signed w64 n) (read_sfits w64 n)
  where
    at : (i : ℤ) → FitsSigned w64 i → InRange i
    at (pos n) h = omega (arith, h.sfits)
    at (negsuc n) h = omega (arith, h.sfits)

bounded_seen : (n : ℕ) → IsSeen (bounded n)
bounded_seen n = by (nat_le n 9223372036854775808) refl
  where
    by : (b : Bool) → nat_le n 9223372036854775808 ≡ b → IsSeen (if b then k.Number n else k.Other)
    by true e = omega (arith, leb-true n 9223372036854775808 e)
    by false e = tt

numbers_seen : (f : ℕ → Symbol) → ((n : ℕ) → IsSeen (f n)) → (o : Option ℕ) → IsSeen (option_map_or f o k.Other)
numbers_seen f h (Some n) = h n
numbers_seen f h None = tt

int_seen : (w : List ℕ) → IsSeen (int_symbol w)
int_seen w = by (hex_digits w)
  where
    bits : (digits : List ℕ) (b : Bool) → IsSeen (if b then option_map_or (λ n. k.Bits (cast_signed w64 n)) (number 16 digits) k.Other else k.Other)
    bits digits true = numbers_seen (λ n. k.Bits (cast_signed w64 n)) in_range (number 16 digits)
    bits digits false = tt

    by : (o : Option (List ℕ)) → IsSeen (option_map_or bits_symbol o (decimal_symbol w))
    by (Some digits) = bits digits (nat_le (length digits) 16)
    by None = numbers_seen bounded bounded_seen (number 10 w)

blob_seen : (w : List ℕ) → IsSeen (blob_symbol w)
blob_seen w = by (decode_of (inside 2 w)) refl
  where
    by : (r : Result (List ℕ) FromHexError) → decode_of (inside 2 w) ≡ r → IsSeen (decoded r)
    by (Ok bytes) e = (decode_of-ok (inside 2 w) bytes e).3
    by (Err x) e = tt

param_seen : (g : ℕ) (w : List ℕ) → IsSeen (param_symbol g w)
param_seen g w = by (length (drop 1 w) == 0)
  where
    by : (b : Bool) → IsSeen (if b then param (g + 1) else given_param (drop 1 w))
    by true = omega arith
    by false = numbers_seen param (λ n. omega arith) (number 10 (drop 1 w))

sign_seen : (w : List ℕ) → IsSeen (sign_symbol w)
sign_seen w = by (marked signs w)
  where
    by : (x : Option Mark) → IsSeen (option_map_or k.Mark x k.Other)
    by (Some x) = tt
    by None = tt

token_seen : (kind : TokenKind) (g : ℕ) (w rest : List ℕ) → IsToken kind w rest → IsSeen (symbol kind g w)
token_seen t.Ident g w rest (inl h) = ident_seen w (word_legal w h)
token_seen t.Ident g w rest (inr h) = ident_seen w h.1
token_seen t.Int g w rest h = int_seen w
token_seen t.Real g w rest h = tt
token_seen t.Text g w rest h = texts_seen k.Text (undoubled 39 (inside 1 w)) (λ e. (e, legal_once 39 (inside 1 w) (legal_inside 1 w h.1)))
token_seen t.Blob g w rest h = blob_seen w
token_seen t.Param g w rest h = param_seen g w
token_seen t.Op g w rest h = sign_seen w
token_seen t.Open g w rest h = tt
token_seen t.Illegal g w rest h = tt

-- ---- all tokens

from_there : (source : List ℕ) (at g : ℕ) (tokens : List Token) → IsTokens source at tokens → All IsSeen (scan (greatest_of source) (symbol_of source) g tokens)
unfolding symbol_of
from_there source at g [] h = tt
from_there source at g (token ∷ tokens) h = (token_seen token.kind g (spelling source token) (drop token.to source) h.1.spelled, from_there source token.to (greatest_of source g token) tokens h.2)

pub symbols_seen : (source : List ℕ) (tokens : List Token) → IsTokens source 0 tokens → All IsSeen (symbols_of source tokens)
symbols_seen source tokens h = from_there source 0 0 tokens h

front_from : (n : ℕ) (source : List ℕ) (at g : ℕ) (tokens : List Token) → IsTokens source at tokens → All IsSeen (scan (greatest_of source) (symbol_of source) g (take n tokens))
unfolding symbol_of
front_from zero source at g tokens h = tt
front_from (suc n) source at g [] h = tt
front_from (suc n) source at g (token ∷ tokens) h = (token_seen token.kind g (spelling source token) (drop token.to source) h.1.spelled, front_from n source token.to (greatest_of source g token) tokens h.2)

-- of the first of them
pub front_seen : (n : ℕ) (source : List ℕ) (tokens : List Token) → IsTokens source 0 tokens → All IsSeen (symbols_of source (take n tokens))
front_seen n source tokens h = front_from n source 0 0 tokens h
