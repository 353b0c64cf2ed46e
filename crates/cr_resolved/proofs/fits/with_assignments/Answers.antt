use Rattle.std.specs.List.{flat_map}
use Rattle.cr_questions.proofs.Collected.{next_act}
use Rattle.cr_resolved.specs.Fits.{seen_with, assignment_params}
use Rattle.cr_resolved.proofs.Seen.{with_more, with_nothing}
use Rattle.cr_resolved.proofs.Nodes.{none_left}
use Rattle.cr_resolved.proofs.fits.with_assignments.Goals as goal

pub loop-assignment-preserved : goal.loop-assignment-preserved
loop-assignment-preserved c =
    next_act seen_with with_more assignment_params c.args.assignments.now c.loop-assignment.assignment-index c.assignment-item.result
    c.loop-assignment.seen c.with_tree-seen.result _ c.loop-assignment-test.true c.assignment-item.is c.with_tree-seen.ensures c.loop-assignment.invariant

pub returns : goal.returns
returns c =
    none_left (λ xs. seen_with c.loop-assignment.seen (flat_map assignment_params xs)) c.args.assignments.now c.loop-assignment.assignment-index c.loop-assignment.seen _
    c.loop-assignment-test.false (with_nothing c.loop-assignment.seen) c.loop-assignment.invariant
