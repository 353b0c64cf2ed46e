use Rattle.std.proofs.Common.{◌∙◌, map, false, sym, ap}
use Rattle.std.specs.List.{flat_map}
use Rattle.cr_questions.proofs.Collected.{next_act}
use Rattle.cr_resolve.specs.Trees.{all, casts}
use Rattle.cr_resolved.specs.Casts.{or_outside, row_casts}
use Rattle.cr_resolved.proofs.Outside.{or_more, or_nothing, or_group}
use Rattle.cr_resolved.proofs.Nodes.{none_left}
use Rattle.cr_resolved.proofs.casts.in_insert.Goals as goal

pub loop-row-preserved : goal.loop-row-preserved
loop-row-preserved c =
    next_act or_outside or_more row_casts c.as_slice-row-items.result.now c.loop-row.row-index c.row-item.result
    c.loop-row.found c.in_ok-found.found _ c.loop-row-test.true c.row-item.is
    (c.in_ok-found.ensures ∙ ap (λ ts. or_outside c.loop-row.found (all (map casts ts))) c.as_slice.ensures ∙ sym (or_group c.loop-row.found c.row-item.result))
    c.loop-row.invariant

pub returns : goal.returns
returns c =
    none_left (λ rows. or_outside c.loop-row.found (flat_map row_casts rows)) c.as_slice-row-items.result.now c.loop-row.row-index c.loop-row.found _
    c.loop-row-test.false (or_nothing c.loop-row.found) c.loop-row.invariant
    ∙ ap (λ rows. or_outside false (flat_map row_casts rows)) c.as_slice-row-items.ensures
