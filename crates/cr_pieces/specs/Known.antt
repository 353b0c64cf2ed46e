-- The tokens that a statement is written with. Source: SQLite's "SQL Syntax", of which this project writes one form of
-- each: names in `"`, blobs and numbers as `X'0A'` and `10`.
use Rattle.std.specs.Prelude.{ℕ, suc, ℤ, pos, negsuc, Bool, true, not, ◌&&◌, ◌||◌, ◌==◌, List, [], ◌∷◌, ◌++◌}
use Rattle.std.specs.Char.{is_ascii_digit}
use Rattle.std.specs.Fmt.{decimal}
use Rattle.hex.specs.Hex.{encode_upper}
use Rattle.cr_lex.specs.declared.token.TokenKind.TheVariants as t
use Rattle.cr_lex.specs.Texts.{is_more, is_pair}
use Rattle.cr_lex.specs.Tokens.{doubled}
use Rattle.cr_tree.specs.declared.symbol.Mark.{Mark}
use Rattle.cr_tree.specs.declared.symbol.Mark.TheVariants as m
use Rattle.cr_tree.specs.declared.symbol.Symbol.{Symbol}
use Rattle.cr_tree.specs.declared.symbol.Symbol.TheVariants as k
use Rattle.cr_pieces.specs.Pieces.{Piece}

-- in quotes, each quote inside doubled
abbrev pub quoted : ℕ → List ℕ → List ℕ
quoted quote w = quote ∷ doubled quote w ++ quote ∷ []

-- a name in `"`
abbrev pub name : Bool → List ℕ → Piece
name apart w = record { apart = apart; kind = t.Ident; bytes = quoted 34 w; symbol = k.Name w; next = λ c. not (c == 34) }

-- a text in `'`
abbrev pub string : Bool → List ℕ → Piece
string apart w = record { apart = apart; kind = t.Text; bytes = quoted 39 w; symbol = k.Text w; next = λ c. not (c == 39) }

-- `X'..'` with digits of upper case
abbrev pub blob : Bool → List ℕ → Piece
blob apart bytes = record { apart = apart; kind = t.Blob; bytes = 88 ∷ 39 ∷ encode_upper bytes ++ 39 ∷ []; symbol = k.Blob bytes; next = λ c. true }

-- a word of the grammar
abbrev pub word : Bool → List ℕ → Mark → Piece
word apart w mark = record { apart = apart; kind = t.Ident; bytes = w; symbol = k.Mark mark; next = λ c. not (is_more c) }

-- Two signs are not read as one, nor as `--`, `/*` or a number's point.
abbrev pub after_sign : List ℕ → ℕ → Bool
after_sign (a ∷ []) c = not (is_pair a c || ((a == 45 && c == 45) || ((a == 47 && c == 42) || (a == 46 && is_ascii_digit c))))
after_sign _ c = true

abbrev pub sign : Bool → List ℕ → Mark → Piece
sign apart w mark = record { apart = apart; kind = t.Op; bytes = w; symbol = k.Mark mark; next = after_sign w }

-- no byte of a word, and no point
abbrev pub after_number : ℕ → Bool
after_number c = not (is_more c || c == 46)

-- in decimal digits
abbrev pub number : Bool → ℕ → Piece
number apart n = record { apart = apart; kind = t.Int; bytes = decimal n; symbol = k.Number n; next = after_number }

-- `?` and its number
abbrev pub param : Bool → ℕ → Piece
param apart n = record { apart = apart; kind = t.Param; bytes = 63 ∷ decimal n; symbol = k.Param n; next = λ c. not (is_ascii_digit c) }

-- the symbols of an integer: a number, behind a minus if it is below 0
abbrev pub integer : ℤ → List Symbol
integer (pos n) = k.Number n ∷ []
integer (negsuc n) = k.Mark m.Minus ∷ k.Number (suc n) ∷ []
