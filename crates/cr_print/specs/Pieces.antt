-- The pieces of SQL text. Source: SQLite's "Literal Values (Constants)" and "SQLite Keywords"; which spelling is
-- written is this project's own.
use Rattle.std.specs.Prelude.{ℕ, List, [], ◌∷◌, ◌++◌, codes}
use Rattle.std.specs.Fmt.{signed_decimal}
use Rattle.hex.specs.Hex.{encode_upper}
use Rattle.cr_lex.specs.Tokens.{doubled}
use Rattle.cr_value.specs.declared.value.Value.{Value}
use Rattle.cr_value.specs.declared.value.Value.TheVariants.{Null, Int, Text, Blob}

-- between quotes
abbrev pub quoted : ℕ → List ℕ → List ℕ
quoted quote t = quote ∷ doubled quote t ++ quote ∷ []

-- "name"
abbrev pub name : List ℕ → List ℕ
name t = quoted 34 t

-- 'text', 5, X'0F', NULL
abbrev pub value : Value → List ℕ
value Null = codes "NULL"
value (Int n) = signed_decimal n
value (Text t) = quoted 39 t
value (Blob b) = codes "X'" ++ encode_upper b ++ codes "'"

-- parts in a row: the first behind one text, each other behind another
abbrev pub in_row : List ℕ → List ℕ → List (List ℕ) → List ℕ
in_row first other [] = []
in_row first other (x ∷ xs) = first ++ x ++ in_row other other xs

-- a, b, c
abbrev pub listed : List (List ℕ) → List ℕ
listed xs = in_row [] (codes ", ") xs

-- a b c
abbrev pub spaced : List (List ℕ) → List ℕ
spaced xs = in_row [] (codes " ") xs
