use Rattle.std.proofs.Common.{◌≡◌, take}
use Rattle.cr_guard.proofs.samples.copies.Given as goal

abbrev pub invariant-loop-event : goal.invariant-loop-event
invariant-loop-event l = l.out.items ≡ take l.event-index l.events
