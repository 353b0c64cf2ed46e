use Rattle.std.proofs.Common.{◌≡◌, drop}
use Rattle.std.specs.List.{flat_map}
use Rattle.cr_resolved.specs.Casts.{or_outside, assignment_casts}
use Rattle.cr_resolved.proofs.casts.or_assignment_casts.Given as goal

abbrev pub invariant-loop-assignment : goal.invariant-loop-assignment
invariant-loop-assignment l = or_outside l.found (flat_map assignment_casts (drop l.assignment-index l.assignments)) ≡ or_outside l.initial.found (flat_map assignment_casts l.assignments)
