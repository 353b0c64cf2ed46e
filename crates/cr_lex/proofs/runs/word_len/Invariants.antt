use Rattle.std.proofs.Common.{◌≡◌, ◌+◌, drop}
use Rattle.std.specs.List.{prefix_len}
use Rattle.cr_lex.specs.Texts.{is_more}
use Rattle.cr_lex.proofs.runs.word_len.Given as goal

abbrev pub invariant-loop-at : goal.invariant-loop-at
invariant-loop-at l = prefix_len is_more l.bytes ≡ l.at + prefix_len is_more (drop l.at l.bytes)
