use Rattle.std.specs.List.{flat_map}
use Rattle.cr_questions.proofs.Collected.{next_act}
use Rattle.cr_resolved.specs.Fits.{seen_with, shown_params}
use Rattle.cr_resolved.proofs.Seen.{with_more, with_nothing}
use Rattle.cr_resolved.proofs.Nodes.{none_left}
use Rattle.cr_resolved.proofs.fits.with_shown.Goals as goal

pub loop-column-preserved : goal.loop-column-preserved
loop-column-preserved c =
    next_act seen_with with_more shown_params c.args.shown.now c.loop-column.column-index c.column-item.result
    c.loop-column.seen c.with_column-seen.result _ c.loop-column-test.true c.column-item.is c.with_column-seen.ensures c.loop-column.invariant

pub returns : goal.returns
returns c =
    none_left (λ xs. seen_with c.loop-column.seen (flat_map shown_params xs)) c.args.shown.now c.loop-column.column-index c.loop-column.seen _
    c.loop-column-test.false (with_nothing c.loop-column.seen) c.loop-column.invariant
