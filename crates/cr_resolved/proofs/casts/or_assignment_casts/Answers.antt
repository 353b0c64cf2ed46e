use Rattle.std.specs.List.{flat_map}
use Rattle.cr_questions.proofs.Collected.{next_act}
use Rattle.cr_resolved.specs.Casts.{or_outside, assignment_casts}
use Rattle.cr_resolved.proofs.Outside.{or_more, or_nothing}
use Rattle.cr_resolved.proofs.Nodes.{none_left}
use Rattle.cr_resolved.proofs.casts.or_assignment_casts.Goals as goal

pub loop-assignment-preserved : goal.loop-assignment-preserved
loop-assignment-preserved c =
    next_act or_outside or_more assignment_casts c.args.assignments.now c.loop-assignment.assignment-index c.assignment-item.result
    c.loop-assignment.found c.in_ok-found.found _ c.loop-assignment-test.true c.assignment-item.is c.in_ok-found.ensures c.loop-assignment.invariant

pub returns : goal.returns
returns c =
    none_left (λ xs. or_outside c.loop-assignment.found (flat_map assignment_casts xs)) c.args.assignments.now c.loop-assignment.assignment-index c.loop-assignment.found _
    c.loop-assignment-test.false (or_nothing c.loop-assignment.found) c.loop-assignment.invariant
