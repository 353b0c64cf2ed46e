-- Why a token is out of this project's SQL. Source: this project's own.
use Rattle.std.specs.Prelude.{ℕ, ◌-◌, Bool, true, false, ◌&&◌, ◌==◌, nat_lt, List, length, slice_get, Option, Some, None, codes, if◌then◌else◌}
use Rattle.std.specs.Option.{option_map_or, option_and_then}
use Rattle.std.specs.Str.{bytes_eq}
use Rattle.cr_lex.specs.declared.token.Token.{Token}
use Rattle.cr_lex.specs.declared.token.TokenKind.{TokenKind}
use Rattle.cr_lex.specs.declared.token.TokenKind.TheVariants as t
use Rattle.cr_lex.specs.Marks.{outside_word}
use Rattle.cr_lex.specs.Spelling.{spelling, number, hex_digits}

abbrev pub real_if : Bool → Option (List ℕ)
real_if b = if b then Some (codes "REAL") else None

-- more than 16 digits; or, behind a minus, the least number of 64 bits, which has no opposite
abbrev pub outside_hex : Bool → List ℕ → Option (List ℕ)
outside_hex minus digits =
    if nat_lt 16 (length digits) then Some (codes "HEX") else option_and_then (λ n. real_if (minus && n == 9223372036854775808)) (number 16 digits)

-- above the greatest number of 64 bits
abbrev pub outside_decimal : List ℕ → Option (List ℕ)
outside_decimal w = option_and_then (λ n. real_if (nat_lt 9223372036854775807 n)) (number 10 w)

abbrev pub outside_int : Bool → List ℕ → Option (List ℕ)
outside_int minus w = option_map_or (outside_hex minus) (hex_digits w) (outside_decimal w)

abbrev pub outside_by : TokenKind → Bool → List ℕ → Option (List ℕ)
outside_by t.Ident minus w = outside_word w
outside_by t.Int minus w = outside_int minus w
outside_by t.Real minus w = Some (codes "REAL")
outside_by t.Text minus w = None
outside_by t.Blob minus w = None
outside_by t.Param minus w = None
outside_by t.Op minus w = None
outside_by t.Open minus w = None
outside_by t.Illegal minus w = None

abbrev pub is_op : TokenKind → Bool
is_op t.Op = true
is_op _ = false

-- the token is the sign `-`
abbrev pub is_minus : List ℕ → Token → Bool
is_minus source token = is_op token.kind && bytes_eq (spelling source token) (codes "-")

-- the token right before a place is
abbrev pub after_minus : List ℕ → List Token → ℕ → Bool
after_minus source tokens at = nat_lt 0 at && option_map_or (is_minus source) (slice_get tokens (at - 1)) false

-- of the token at a place
unfoldable pub outside_of : List ℕ → List Token → ℕ → Option (List ℕ)
outside_of source tokens at = option_and_then (λ token. outside_by token.kind (after_minus source tokens at) (spelling source token)) (slice_get tokens at)
