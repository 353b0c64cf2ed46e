use Rattle.std.proofs.Common.{◌≡◌, [], ◌∷◌}
use Rattle.cr_resolve.specs.Writes.{assignments}
use Rattle.cr_written.proofs.Loops.{behind}
use Rattle.cr_written.proofs.Columns.{assignments_left}
use Rattle.cr_written.proofs.update.assignments.Given as goal

abbrev pub invariant-loop-number : goal.invariant-loop-number
invariant-loop-number g l =
    let known = g.K.Naming.known l.known in
    behind l.made (assignments_left known l.source l.trees l.number) ≡ assignments known (l.source ∷ []) l.source.relation.definition [] l.trees
