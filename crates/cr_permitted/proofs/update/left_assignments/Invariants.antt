use Rattle.std.proofs.Common.{◌≡◌, ◌++◌, drop}
use Rattle.cr_permitted.specs.Assigned.{left_assignments}
use Rattle.cr_permitted.proofs.update.left_assignments.Given as goal

abbrev pub invariant-loop-assignment : goal.invariant-loop-assignment
invariant-loop-assignment g l =
    l.lefts.items ++ left_assignments (g.G.Answering.answers l.guard) l.relation (drop l.assignment-index l.assignments) ≡ left_assignments (g.G.Answering.answers l.guard) l.relation l.assignments
