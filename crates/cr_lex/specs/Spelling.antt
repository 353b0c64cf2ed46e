-- What the bytes of a token spell. Source: SQLite's "SQLite Keywords" and "Literal Values (Constants)" for quotes and
-- numbers.
use Rattle.std.specs.Prelude.{ℕ, ◌-◌, Bool, ◌&&◌, ◌==◌, nat_lt, List, [], ◌∷◌, length, take, drop, slice_range, Option, Some, None, if◌then◌else◌}
use Rattle.std.specs.List.{list_all}
use Rattle.std.specs.Char.{is_digit}
use Rattle.std.specs.Str.Parse.{digits_value}
use Rattle.cr_lex.specs.declared.token.Token.{Token}

-- The bytes of a token; those of them that are in the source, if it ends before.
abbrev pub spelling : List ℕ → Token → List ℕ
spelling source t = slice_range source t.from t.to

-- what follows an opening of so many bytes, but for the last byte, which closes it
abbrev pub inside : ℕ → List ℕ → List ℕ
inside opening w = take (length (drop opening w) - 1) (drop opening w)

-- with each doubled quote once
unfoldable pub undoubled : ℕ → List ℕ → List ℕ
undoubled quote [] = []
undoubled quote (c ∷ []) = c ∷ []
undoubled quote (c ∷ d ∷ cs) = c ∷ (if c == quote && d == quote then undoubled quote cs else undoubled quote (d ∷ cs))

-- one digit or more, and nothing else
abbrev pub is_numeral : ℕ → List ℕ → Bool
is_numeral radix w = nat_lt 0 (length w) && list_all (λ c. is_digit c radix) w

-- the number that digits spell
unfoldable pub number : ℕ → List ℕ → Option ℕ
number radix w = if is_numeral radix w then Some (digits_value radix w) else None

-- what follows `0x`
unfoldable pub hex_digits : List ℕ → Option (List ℕ)
hex_digits [] = None
hex_digits (a ∷ []) = None
hex_digits (a ∷ b ∷ digits) = if a == 48 && b == 120 then Some digits else None
