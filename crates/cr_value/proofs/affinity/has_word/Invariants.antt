use Rattle.std.proofs.Common.{◌≡◌, drop}
use Rattle.cr_value.specs.Affinity.{has_word}
use Rattle.cr_value.proofs.affinity.has_word.Given as goal

abbrev pub invariant-loop-at : goal.invariant-loop-at
invariant-loop-at l = has_word l.word l.text ≡ has_word l.word (drop l.at l.text)
