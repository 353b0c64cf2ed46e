use Rattle.std.specs.List.{flat_map}
use Rattle.cr_questions.proofs.Collected.{next_act}
use Rattle.cr_resolved.specs.Fits.{seen_with, join_params}
use Rattle.cr_resolved.proofs.Seen.{with_more, with_nothing}
use Rattle.cr_resolved.proofs.Nodes.{none_left}
use Rattle.cr_resolved.proofs.fits.with_joins.Goals as goal

pub loop-join-preserved : goal.loop-join-preserved
loop-join-preserved c =
    next_act seen_with with_more join_params c.args.joins.now c.loop-join.join-index c.join-item.result
    c.loop-join.seen c.with_clause-seen.result _ c.loop-join-test.true c.join-item.is c.with_clause-seen.ensures c.loop-join.invariant

pub returns : goal.returns
returns c =
    none_left (λ xs. seen_with c.loop-join.seen (flat_map join_params xs)) c.args.joins.now c.loop-join.join-index c.loop-join.seen _
    c.loop-join-test.false (with_nothing c.loop-join.seen) c.loop-join.invariant
