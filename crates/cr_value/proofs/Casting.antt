-- The number at the front of a text.
use Rattle.std.proofs.Common.{◌≡◌, ℕ, ◌+◌, ◌-◌, ◌*◌, ◌<◌, List, length, take, get_or, ap, arith}
use Rattle.std.specs.Char.{IsAsciiDigit, digit_value}
use Rattle.std.specs.Str.Parse.{digits_value}
use Rattle.std.proofs.lemmas.Int.Digits.{digits_value_more}
use Rattle.std.proofs.lemmas.Str.{digit_value_digit}

pub more_digits : (ds : List ℕ) (i c : ℕ) → i < length ds → IsAsciiDigit c → c ≡ get_or ds i 0
    → digits_value 10 (take (i + 1) ds) ≡ digits_value 10 (take i ds) * 10 + (c - 48)
more_digits ds i c lt is at = omega (arith, digits_value_more 10 ds i lt, ap digit_value at, digit_value_digit c is)
