use Rattle.std.proofs.Common.{◌≡◌, max, drop}
use Rattle.cr_tree.specs.Parameters as spec
use Rattle.cr_tree.proofs.parameters.of_assignments.Given as goal

abbrev pub invariant-loop-assignment : goal.invariant-loop-assignment
invariant-loop-assignment l = max l.greatest (spec.of_all spec.of_assignment (drop l.assignment-index l.assignments)) ≡ spec.of_all spec.of_assignment l.assignments
