-- Reading a literal from left to right, one way for each byte that it may begin with. This is how the code goes about
-- it; what is promised of it is `Begins`.
use Rattle.std.specs.Prelude.{ℕ, ◌+◌, Bool, true, false, not, ◌&&◌, ◌||◌, ◌==◌, nat_lt, nat_eq, List, [], ◌∷◌, length, take, drop, Option, Some, None, Result, Ok, Err, codes, if◌then◌else◌}
use Rattle.std.specs.List.{starts_with, prefix_len}
use Rattle.std.specs.Fmt.{signed_decimal}
use Rattle.std.specs.Str.{is_utf8, bytes_eq}
use Rattle.std.specs.Str.Parse.{starts_with_minus}
use Rattle.std.specs.Char.{is_ascii_digit}
use Rattle.hex.specs.Hex.{decode_of}
use Rattle.hex.specs.declared.error.FromHexError.{FromHexError}
use Rattle.cr_value.specs.declared.value.Value.{Value}
use Rattle.cr_value.specs.declared.value.Value.TheVariants.{Null, Int, Text, Blob}
use Rattle.cr_value.specs.Affinity.{int_of_text}
use Rattle.cr_value.specs.Literal.{is_control}
use Rattle.cr_value.specs.Unpacking.{◌>>=◌}

-- what follows the prefix
unfoldable pub after_prefix : List ℕ → List ℕ → Option (List ℕ)
after_prefix prefix bytes = if starts_with nat_eq bytes prefix then Some (drop (length prefix) bytes) else None

-- how many bytes an optional minus and the digits behind it are
abbrev pub numeral_len : List ℕ → ℕ
numeral_len bytes = if starts_with_minus bytes then 1 + prefix_len is_ascii_digit (drop 1 bytes) else prefix_len is_ascii_digit bytes

unfoldable pub integer_at : List ℕ → Option (Value × List ℕ)
integer_at bytes =
    let numeral = take (numeral_len bytes) bytes in
    if is_utf8 numeral
    then (int_of_text numeral >>= λ n. if bytes_eq (signed_decimal n) numeral then Some (Int n, drop (numeral_len bytes) bytes) else None)
    else None

-- a byte, before what is read behind it
abbrev pub with_byte : ℕ → Option (List ℕ × List ℕ) → Option (List ℕ × List ℕ)
with_byte c read = read >>= λ x. Some (c ∷ x.0, x.1)

-- the text up to its closing quote, and what follows; the test says whether a quote stands before, that may be the closing one
unfoldable pub closed_at : Bool → List ℕ → Option (List ℕ × List ℕ)
closed_at true [] = Some ([], [])
closed_at false [] = None
closed_at true (c ∷ cs) = if c == 39 then with_byte 39 (closed_at false cs) else Some ([], c ∷ cs)
closed_at false (c ∷ cs) = if c == 39 then closed_at true cs else if is_control c then None else with_byte c (closed_at false cs)

abbrev pub text_of : List ℕ → Option Value
text_of bytes = if is_utf8 bytes then Some (Text bytes) else None

unfoldable pub quoted_at : List ℕ → Option (Value × List ℕ)
quoted_at bytes = do
  t ← closed_at false bytes
  v ← text_of t.0
  Some (v, t.1)

abbrev pub decoded : Result (List ℕ) FromHexError → Option (List ℕ)
decoded (Ok b) = Some b
decoded (Err e) = None

-- hexadecimal digits up to a quote
unfoldable pub digits_at : List ℕ → Option (List ℕ × List ℕ)
digits_at bytes =
    let n = prefix_len (λ c. not (c == 39)) bytes in
    if nat_lt n (length bytes) then (decoded (decode_of (take n bytes)) >>= λ b. Some (b, drop (n + 1) bytes)) else None

unfoldable pub hex_at : List ℕ → Option (List ℕ × List ℕ)
hex_at [] = None
hex_at (x ∷ []) = None
hex_at (x ∷ q ∷ bytes) = if (x == 88 || x == 120) && q == 39 then digits_at bytes else None

unfoldable pub blob_at : List ℕ → Option (Value × List ℕ)
blob_at bytes = hex_at bytes >>= λ b. Some (Blob b.0, b.1)

unfoldable pub cast_at : List ℕ → Option (Value × List ℕ)
cast_at bytes = do
  rest ← after_prefix (codes "CAST(") bytes
  t ← hex_at rest
  after ← after_prefix (codes " AS TEXT)") t.1
  v ← text_of t.0
  Some (v, after)

unfoldable pub null_at : List ℕ → Option (Value × List ℕ)
null_at bytes = after_prefix (codes "NULL") bytes >>= λ rest. Some (Null, rest)

unfoldable pub literal_at : List ℕ → Option (Value × List ℕ)
literal_at [] = None
literal_at (c ∷ cs) =
    if c == 39 then quoted_at cs
    else if c == 88 || c == 120 then blob_at (c ∷ cs)
    else if c == 67 then cast_at (c ∷ cs)
    else if c == 78 then null_at (c ∷ cs)
    else integer_at (c ∷ cs)
