use Rattle.std.proofs.Common.{◌≡◌, drop}
use Rattle.std.specs.List.{flat_map}
use Rattle.cr_resolved.specs.Fits.{seen_with, assignment_params}
use Rattle.cr_resolved.proofs.fits.with_assignments.Given as goal

abbrev pub invariant-loop-assignment : goal.invariant-loop-assignment
invariant-loop-assignment l = seen_with l.seen (flat_map assignment_params (drop l.assignment-index l.assignments)) ≡ seen_with l.initial.seen (flat_map assignment_params l.assignments)
