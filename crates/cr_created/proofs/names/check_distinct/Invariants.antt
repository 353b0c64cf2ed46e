use Rattle.std.proofs.Common.{◌≡◌, [], drop, take}
use Rattle.cr_resolve.specs.Creates.{repeats}
use Rattle.cr_created.proofs.names.check_distinct.Given as goal

abbrev pub invariant-loop-i : goal.invariant-loop-i
invariant-loop-i l = repeats (take l.i l.names) (drop l.i l.names) ≡ repeats [] l.names
