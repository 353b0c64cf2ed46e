use Rattle.std.proofs.Common.{◌≡◌, ◌+◌, ◌==◌, drop, not}
use Rattle.std.specs.List.{prefix_len}
use Rattle.cr_value.proofs.literal.len_before_quote.Given as goal

abbrev pub invariant-loop-at : goal.invariant-loop-at
invariant-loop-at l = prefix_len (λ c. not (c == 39)) l.bytes ≡ l.at + prefix_len (λ c. not (c == 39)) (drop l.at l.bytes)
