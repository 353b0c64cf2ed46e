-- What CAST makes of a value. Source: SQLite's "CAST expressions"; that a blob which is no UTF-8 is refused, and that
-- spaces alone are skipped before a number, is this project's own.
use Rattle.std.specs.Prelude.{◌≡◌, ◌≢◌, ℕ, ℤ, pos, neg_ℤ, List, Option, Some, None, Result, Ok, Err, if◌then◌else◌}
use Rattle.std.specs.List.{take_while}
use Rattle.std.specs.Char.{is_ascii_digit}
use Rattle.std.specs.Fmt.{signed_decimal}
use Rattle.std.specs.Int.{w64, saturate_signed}
use Rattle.std.specs.Str.{is_utf8}
use Rattle.std.specs.Str.Parse.{digits_value, starts_with_minus, without_leading_sign}
use Rattle.cr_value.specs.Collation.{without_leading_spaces}
use Rattle.cr_value.specs.declared.value.Value.{Value}
use Rattle.cr_value.specs.declared.value.Value.TheVariants.{Null, Int, Text, Blob}
use Rattle.cr_value.specs.declared.cast.CastTo.{CastTo}
use Rattle.cr_value.specs.declared.cast.CastTo.TheVariants as to
use Rattle.cr_value.specs.declared.cast.CastError.{CastError}
use Rattle.cr_value.specs.declared.cast.CastError.TheVariants as error

-- the number that a sign and the digits behind it write, with nothing or anything else behind them
abbrev pub leading_number : List ℕ → ℤ
leading_number t =
    let magnitude = digits_value 10 (take_while is_ascii_digit (without_leading_sign t)) in
    if starts_with_minus t then neg_ℤ (pos magnitude) else pos magnitude

-- the longest prefix that is an optional sign and digits, behind spaces, clamped to 64 bits; 0 where there is none
unfoldable pub integer_prefix : List ℕ → ℤ
integer_prefix t = saturate_signed w64 (leading_number (without_leading_spaces t))

-- a blob goes by way of text, which it is where it is UTF-8
abbrev pub by_way_of_text : List ℕ → Value → Option Value
by_way_of_text b v = if is_utf8 b then Some v else None

-- None where a blob is no text
abbrev pub as_integer : Value → Option Value
as_integer Null = Some Null
as_integer (Int n) = Some (Int n)
as_integer (Text t) = Some (Int (integer_prefix t))
as_integer (Blob b) = by_way_of_text b (Int (integer_prefix b))

abbrev pub as_text : Value → Option Value
as_text Null = Some Null
as_text (Int n) = Some (Text (signed_decimal n))
as_text (Text t) = Some (Text t)
as_text (Blob b) = by_way_of_text b (Text b)

abbrev pub as_blob : Value → Option Value
as_blob Null = Some Null
as_blob (Int n) = Some (Blob (signed_decimal n))
as_blob (Text t) = Some (Blob t)
as_blob (Blob b) = Some (Blob b)

abbrev pub cast_to : CastTo → Value → Option Value
cast_to to.Integer v = as_integer v
cast_to to.Text v = as_text v
cast_to to.Blob v = as_blob v

-- what a cast answers: the value, or that a blob is no text, which takes no memory to tell
abbrev pub Refuses : CastError → Option Value → Type 0
Refuses error.Memory value = value ≢ None
Refuses error.NotUtf8 value = value ≡ None

abbrev pub Casts : Result Value CastError → Option Value → Type 0
Casts (Ok v) value = value ≡ Some v
Casts (Err e) value = Refuses e value
