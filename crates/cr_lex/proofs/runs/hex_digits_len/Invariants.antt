use Rattle.std.proofs.Common.{◌≡◌, ◌+◌, drop}
use Rattle.std.specs.List.{prefix_len}
use Rattle.std.specs.Char.{is_ascii_hexdigit}
use Rattle.cr_lex.proofs.runs.hex_digits_len.Given as goal

abbrev pub invariant-loop-at : goal.invariant-loop-at
invariant-loop-at l = prefix_len is_ascii_hexdigit l.bytes ≡ l.at + prefix_len is_ascii_hexdigit (drop l.at l.bytes)
