use Rattle.std.proofs.Common.{◌≡◌, ◌+◌, ◌==◌, drop, not}
use Rattle.std.specs.List.{prefix_len}
use Rattle.cr_lex.proofs.runs.len_before.Given as goal

abbrev pub invariant-loop-at : goal.invariant-loop-at
invariant-loop-at l = prefix_len (λ c. not (c == l.end)) l.bytes ≡ l.at + prefix_len (λ c. not (c == l.end)) (drop l.at l.bytes)
