use Rattle.std.proofs.Common.{◌≡◌, false, []}
use Rattle.cr_resolve.specs.Writes.{targets}
use Rattle.cr_written.proofs.Loops.{behind}
use Rattle.cr_written.proofs.Columns.{targets_left}
use Rattle.cr_written.proofs.targets.targets.Given as goal

abbrev pub invariant-loop-number : goal.invariant-loop-number
invariant-loop-number l = behind (record { made = l.places; is_misplaced = false }) (targets_left l.definition l.names l.number) ≡ targets l.definition [] l.names
