-- The names among a text's symbols are folded.
use Rattle.std.proofs.Common.{◌≡◌, refl, ℕ, Bool, true, false, not, ◌&&◌, ◌||◌, ◌==◌, nat_lt, nat_le, if◌then◌else◌, List, [], ◌∷◌, ◌++◌, length, drop, Option, Some, None, Result, Ok, Err, ◌+◌, slice_index, arith}
use Rattle.std.specs.Int.{w64, cast_signed}
use Rattle.std.specs.List.{scan}
use Rattle.std.specs.Option.{option_map_or}
use Rattle.std.specs.Str.{is_utf8, str_to_ascii_lowercase}
use Rattle.std.specs.Char.{to_ascii_lowercase}
use Rattle.std.proofs.lemmas.Bool.Decides.{nat_tests}
use Rattle.hex.specs.Hex.{decode_of}
use Rattle.hex.specs.declared.error.FromHexError.{FromHexError}
use Rattle.cr_lex.specs.declared.token.Token.{Token}
use Rattle.cr_lex.specs.declared.token.TokenKind.{TokenKind}
use Rattle.cr_lex.specs.declared.token.TokenKind.TheVariants as t
use Rattle.cr_tree.specs.declared.symbol.Mark.{Mark}
use Rattle.cr_tree.specs.declared.symbol.Symbol.{Symbol}
use Rattle.cr_tree.specs.declared.symbol.Symbol.TheVariants as k
use Rattle.cr_cells.specs.Tables.{is_folded}
use Rattle.cr_lex.specs.Marks.{marked, words, signs, outside_word}
use Rattle.cr_lex.specs.Spelling.{spelling, inside, undoubled, number, hex_digits}
use Rattle.cr_lex.specs.Symbols.{text_of, name_symbol, word_symbol, ident_symbol, bits_symbol, bounded, decimal_symbol, int_symbol, text_symbol, decoded, blob_symbol, param, param_symbol, sign_symbol, symbol, symbol_of, greatest_of, symbols_of}

abbrev pub all : (Symbol → Type 0) → List Symbol → Type 0
all P [] = Unit {0}
all P (x ∷ xs) = P x × all P xs

pub front : (P : Symbol → Type 0) (xs ys : List Symbol) → all P (xs ++ ys) → all P xs
front P [] ys a = tt
front P (x ∷ xs) ys a = (a.0, front P xs ys a.1)

pub back : (P : Symbol → Type 0) (xs ys : List Symbol) → all P (xs ++ ys) → all P ys
back P [] ys a = a
back P (x ∷ xs) ys a = back P xs ys a.1

-- a name is folded
abbrev pub IsFolded : Symbol → Type 0
IsFolded (k.Name n) = is_folded n ≡ true
IsFolded _ = Unit {0}

low : (b : ℕ) → not (nat_lt 64 (to_ascii_lowercase b) && nat_lt (to_ascii_lowercase b) 91) ≡ true
low b = grind (arith, nat_tests)

lower_is_folded : (w : List ℕ) → is_folded (str_to_ascii_lowercase w) ≡ true
lower_is_folded [] = refl
lower_is_folded (b ∷ bs) = rw (low b) (lower_is_folded bs)

name_is : (w : List ℕ) → IsFolded (name_symbol w)
name_is w = by (is_utf8 (str_to_ascii_lowercase w))
  where
    by : (b : Bool) → IsFolded (option_map_or k.Name (if b then Some (str_to_ascii_lowercase w) else None) k.Other)
    by true = lower_is_folded w
    by false = tt

word_is : (w : List ℕ) → IsFolded (word_symbol w)
word_is w = by (marked words w) (outside_word w)
  where
    by : {X : Type 0} (m : Option Mark) (o : Option X) → IsFolded (option_map_or k.Mark m (option_map_or (λ _. k.Other) o (name_symbol w)))
    by (Some m) o = tt
    by None (Some x) = tt
    by None None = name_is w

ident_is : (w : List ℕ) → IsFolded (ident_symbol w)
ident_is w = by (slice_index w 0 == 34 || slice_index w 0 == 96) (slice_index w 0 == 91)
  where
    by : (a b : Bool) → IsFolded (if a then name_symbol (undoubled (slice_index w 0) (inside 1 w)) else if b then name_symbol (inside 1 w) else word_symbol w)
    by true b = name_is (undoubled (slice_index w 0) (inside 1 w))
    by false true = name_is (inside 1 w)
    by false false = word_is w

bits_is : (w : List ℕ) → IsFolded (bits_symbol w)
bits_is w = by (nat_le (length w) 16) (number 16 w)
  where
    by : (b : Bool) (o : Option ℕ) → IsFolded (if b then option_map_or (λ n. k.Bits (cast_signed w64 n)) o k.Other else k.Other)
    by true (Some n) = tt
    by true None = tt
    by false o = tt

decimal_is : (w : List ℕ) → IsFolded (decimal_symbol w)
decimal_is w = by (number 10 w)
  where
    at_most : (n : ℕ) (b : Bool) → IsFolded (if b then k.Number n else k.Other)
    at_most n true = tt
    at_most n false = tt

    by : (o : Option ℕ) → IsFolded (option_map_or bounded o k.Other)
    by (Some n) = at_most n (nat_le n 9223372036854775808)
    by None = tt

int_is : (w : List ℕ) → IsFolded (int_symbol w)
int_is w = by (hex_digits w)
  where
    by : (o : Option (List ℕ)) → IsFolded (option_map_or bits_symbol o (decimal_symbol w))
    by (Some digits) = bits_is digits
    by None = decimal_is w

text_is : (w : List ℕ) → IsFolded (text_symbol w)
text_is w = by (text_of (undoubled 39 (inside 1 w)))
  where
    by : (o : Option (List ℕ)) → IsFolded (option_map_or k.Text o k.Other)
    by (Some x) = tt
    by None = tt

blob_is : (w : List ℕ) → IsFolded (blob_symbol w)
blob_is w = by (decode_of (inside 2 w))
  where
    by : (r : Result (List ℕ) FromHexError) → IsFolded (decoded r)
    by (Ok bytes) = tt
    by (Err e) = tt

param_is : (greatest : ℕ) (w : List ℕ) → IsFolded (param_symbol greatest w)
param_is greatest w = by (length (drop 1 w) == 0) (number 10 (drop 1 w))
  where
    by : (b : Bool) (o : Option ℕ) → IsFolded (if b then param (greatest + 1) else option_map_or param o k.Other)
    by true o = tt
    by false (Some n) = tt
    by false None = tt

sign_is : (w : List ℕ) → IsFolded (sign_symbol w)
sign_is w = by (marked signs w)
  where
    by : (o : Option Mark) → IsFolded (option_map_or k.Mark o k.Other)
    by (Some m) = tt
    by None = tt

symbol_is : (kind : TokenKind) (greatest : ℕ) (w : List ℕ) → IsFolded (symbol kind greatest w)
symbol_is t.Ident greatest w = ident_is w
symbol_is t.Int greatest w = int_is w
symbol_is t.Real greatest w = tt
symbol_is t.Text greatest w = text_is w
symbol_is t.Blob greatest w = blob_is w
symbol_is t.Param greatest w = param_is greatest w
symbol_is t.Op greatest w = sign_is w
symbol_is t.Open greatest w = tt
symbol_is t.Illegal greatest w = tt

from_there : (source : List ℕ) (greatest : ℕ) (tokens : List Token) → all IsFolded (scan (greatest_of source) (symbol_of source) greatest tokens)
unfolding symbol_of
from_there source greatest [] = tt
from_there source greatest (token ∷ tokens) = (symbol_is token.kind greatest (spelling source token), from_there source (greatest_of source greatest token) tokens)

pub are_folded : (source : List ℕ) (tokens : List Token) → all IsFolded (symbols_of source tokens)
are_folded source tokens = from_there source 0 tokens
