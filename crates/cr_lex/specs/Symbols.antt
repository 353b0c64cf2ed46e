-- The symbols of tokens. Source: SQLite's "SQL Syntax", of which this project's own grammar is a part; that a number in
-- decimal digits is at most 9223372036854775808 and a parameter's number at most 1000 is this project's own.
use Rattle.std.specs.Prelude.{ℕ, ◌+◌, ◌==◌, ◌||◌, nat_le, min, max, List, length, drop, slice_index, Option, Some, None, Result, Ok, Err, alloc_error, if◌then◌else◌}
use Rattle.std.specs.List.{scan}
use Rattle.std.specs.Option.{option_map_or}
use Rattle.std.specs.Int.{w64, cast_signed}
use Rattle.std.specs.declared.alloc.AllocError.{AllocError}
use Rattle.std.specs.Str.{is_utf8, str_to_ascii_lowercase}
use Rattle.hex.specs.Hex.{decode_of}
use Rattle.hex.specs.declared.error.FromHexError.{FromHexError}
use Rattle.hex.specs.declared.error.FromHexError.TheVariants as h
use Rattle.cr_lex.specs.declared.token.Token.{Token}
use Rattle.cr_lex.specs.declared.token.TokenKind.{TokenKind}
use Rattle.cr_lex.specs.declared.token.TokenKind.TheVariants as t
use Rattle.cr_tree.specs.declared.symbol.Symbol.{Symbol}
use Rattle.cr_tree.specs.declared.symbol.Symbol.TheVariants as k
use Rattle.cr_lex.specs.Marks.{marked, words, signs, outside_word}
use Rattle.cr_lex.specs.Spelling.{spelling, inside, undoubled, number, hex_digits}

-- ---- names

-- Bytes that are no UTF-8, as a token's that splits a character, are no name and no text.
abbrev pub text_of : List ℕ → Option (List ℕ)
text_of w = if is_utf8 w then Some w else None

-- ASCII letters in lower case
abbrev pub name_symbol : List ℕ → Symbol
name_symbol w = option_map_or k.Name (text_of (str_to_ascii_lowercase w)) k.Other

-- a word of the grammar, then one of SQL outside of it, then a name
abbrev pub word_symbol : List ℕ → Symbol
word_symbol w = option_map_or k.Mark (marked words w) (option_map_or (λ _. k.Other) (outside_word w) (name_symbol w))

-- in `"` or `` ` ``, which may stand doubled inside, or in `[]`
abbrev pub ident_symbol : List ℕ → Symbol
ident_symbol w =
    let first = slice_index w 0 in
    if first == 34 || first == 96 then name_symbol (undoubled first (inside 1 w))
    else if first == 91 then name_symbol (inside 1 w)
    else word_symbol w

-- ---- literals

-- at most 16 digits, leading zeros among them, in two's complement
abbrev pub bits_symbol : List ℕ → Symbol
bits_symbol digits = if nat_le (length digits) 16 then option_map_or (λ n. k.Bits (cast_signed w64 n)) (number 16 digits) k.Other else k.Other

abbrev pub bounded : ℕ → Symbol
bounded n = if nat_le n 9223372036854775808 then k.Number n else k.Other

abbrev pub decimal_symbol : List ℕ → Symbol
decimal_symbol w = option_map_or bounded (number 10 w) k.Other

abbrev pub int_symbol : List ℕ → Symbol
int_symbol w = option_map_or bits_symbol (hex_digits w) (decimal_symbol w)

abbrev pub text_symbol : List ℕ → Symbol
text_symbol w = option_map_or k.Text (text_of (undoubled 39 (inside 1 w))) k.Other

abbrev pub decoded : Result (List ℕ) FromHexError → Symbol
decoded (Ok bytes) = k.Blob bytes
decoded (Err e) = k.Other

-- what is told of digits that spell no bytes, or where memory ran out
abbrev pub not_blob : FromHexError → Result Symbol AllocError
not_blob h.OutOfMemory = Err alloc_error
not_blob _ = Ok k.Other

abbrev pub blob_symbol : List ℕ → Symbol
blob_symbol w = decoded (decode_of (inside 2 w))

-- ---- parameters

-- a number above 999 is kept as 1000
abbrev pub param : ℕ → Symbol
param n = k.Param (min 1000 n)

abbrev pub given_param : List ℕ → Symbol
given_param digits = option_map_or param (number 10 digits) k.Other

-- `?` is one more than the greatest number before it, `?N` is N
abbrev pub param_symbol : ℕ → List ℕ → Symbol
param_symbol greatest w =
    let digits = drop 1 w in
    if length digits == 0 then param (greatest + 1) else given_param digits

-- ---- all of them

abbrev pub sign_symbol : List ℕ → Symbol
sign_symbol w = option_map_or k.Mark (marked signs w) k.Other

abbrev pub symbol : TokenKind → ℕ → List ℕ → Symbol
symbol t.Ident greatest w = ident_symbol w
symbol t.Int greatest w = int_symbol w
symbol t.Real greatest w = k.Other
symbol t.Text greatest w = text_symbol w
symbol t.Blob greatest w = blob_symbol w
symbol t.Param greatest w = param_symbol greatest w
symbol t.Op greatest w = sign_symbol w
symbol t.Open greatest w = k.Other
symbol t.Illegal greatest w = k.Other

-- a token's, where greatest is the greatest number of a parameter before it
unfoldable pub symbol_of : List ℕ → ℕ → Token → Symbol
symbol_of source greatest token = symbol token.kind greatest (spelling source token)

abbrev pub param_number : Symbol → ℕ
param_number (k.Param n) = n
param_number _ = 0

-- the greatest number of a parameter up to a token
unfoldable pub greatest_of : List ℕ → ℕ → Token → ℕ
greatest_of source greatest token = max greatest (param_number (symbol_of source greatest token))

-- one symbol for each token
abbrev pub symbols_of : List ℕ → List Token → List Symbol
symbols_of source tokens = scan (greatest_of source) (symbol_of source) 0 tokens
