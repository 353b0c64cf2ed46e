use Rattle.std.specs.List.{flat_map}
use Rattle.cr_questions.proofs.Collected.{next_act}
use Rattle.cr_resolved.specs.Casts.{or_outside, join_casts}
use Rattle.cr_resolved.proofs.Outside.{or_more, or_nothing}
use Rattle.cr_resolved.proofs.Nodes.{none_left}
use Rattle.cr_resolved.proofs.casts.or_join_casts.Goals as goal

pub loop-join-preserved : goal.loop-join-preserved
loop-join-preserved c =
    next_act or_outside or_more join_casts c.args.joins.now c.loop-join.join-index c.join-item.result
    c.loop-join.found c.in_ok-found.found _ c.loop-join-test.true c.join-item.is c.in_ok-found.ensures c.loop-join.invariant

pub returns : goal.returns
returns c =
    none_left (λ xs. or_outside c.loop-join.found (flat_map join_casts xs)) c.args.joins.now c.loop-join.join-index c.loop-join.found _
    c.loop-join-test.false (or_nothing c.loop-join.found) c.loop-join.invariant
