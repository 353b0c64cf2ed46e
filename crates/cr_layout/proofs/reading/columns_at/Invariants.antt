use Rattle.std.proofs.Common.{◌≡◌, ◌-◌}
use Rattle.cr_layout.specs.Reading.{columns_at}
use Rattle.cr_layout.proofs.Loop.{with_front}
use Rattle.cr_layout.proofs.reading.columns_at.Given as goal

abbrev pub invariant-loop : goal.invariant-loop
invariant-loop l = with_front l.columns.items (columns_at (l.count - l.counter) l.rest) ≡ columns_at l.count l.bytes
