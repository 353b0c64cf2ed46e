use Rattle.std.proofs.Common.{◌≡◌, false, drop}
use Rattle.cr_value.specs.Reading.{closed_at}
use Rattle.cr_value.proofs.Quotes.{with_front}
use Rattle.cr_value.proofs.literal.closed_at.Given as goal

abbrev pub invariant-loop-at : goal.invariant-loop-at
invariant-loop-at l = with_front l.text.items (closed_at l.after_quote (drop l.at l.bytes)) ≡ closed_at false l.bytes
