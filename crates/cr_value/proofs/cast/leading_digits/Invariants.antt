use Rattle.std.proofs.Common.{◌≡◌, ℕ, ◌<◌, ◌+◌, drop, get_or}
use Rattle.std.specs.Char.{is_ascii_digit, IsAsciiDigit}
use Rattle.std.specs.List.{prefix_len}
use Rattle.cr_value.proofs.cast.leading_digits.Given as goal

abbrev pub invariant-loop-at : goal.invariant-loop-at
invariant-loop-at l = record {
  counted : prefix_len is_ascii_digit l.text ≡ l.at + prefix_len is_ascii_digit (drop l.at l.text);
  digits : (k : ℕ) → k < l.at → IsAsciiDigit (get_or l.text k 0);
}
