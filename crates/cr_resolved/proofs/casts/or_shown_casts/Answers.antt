use Rattle.std.specs.List.{flat_map}
use Rattle.cr_questions.proofs.Collected.{next_act}
use Rattle.cr_resolved.specs.Casts.{or_outside, shown_casts}
use Rattle.cr_resolved.proofs.Outside.{or_more, or_nothing}
use Rattle.cr_resolved.proofs.Nodes.{none_left}
use Rattle.cr_resolved.proofs.casts.or_shown_casts.Goals as goal

pub loop-column-preserved : goal.loop-column-preserved
loop-column-preserved c =
    next_act or_outside or_more shown_casts c.args.shown.now c.loop-column.column-index c.column-item.result
    c.loop-column.found c.in_ok-found.found _ c.loop-column-test.true c.column-item.is c.in_ok-found.ensures c.loop-column.invariant

pub returns : goal.returns
returns c =
    none_left (λ xs. or_outside c.loop-column.found (flat_map shown_casts xs)) c.args.shown.now c.loop-column.column-index c.loop-column.found _
    c.loop-column-test.false (or_nothing c.loop-column.found) c.loop-column.invariant
