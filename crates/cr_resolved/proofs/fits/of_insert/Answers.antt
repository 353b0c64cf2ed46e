use Rattle.std.proofs.Common.{◌∙◌, map, sym, ap}
use Rattle.std.specs.List.{flat_map}
use Rattle.cr_questions.proofs.Collected.{next_act}
use Rattle.cr_resolve.specs.Trees.{all, params}
use Rattle.cr_resolved.specs.Fits.{seen_with, nothing_seen, row_params}
use Rattle.cr_resolved.proofs.Seen.{with_more, with_nothing, with_group_trees}
use Rattle.cr_resolved.proofs.Nodes.{none_left}
use Rattle.cr_resolved.proofs.fits.of_insert.Goals as goal

pub loop-row-preserved : goal.loop-row-preserved
loop-row-preserved c =
    next_act seen_with with_more row_params c.as_slice-row-items.result.now c.loop-row.row-index c.row-item.result
    c.loop-row.seen c.with_trees-seen.result _ c.loop-row-test.true c.row-item.is
    (c.with_trees-seen.ensures ∙ ap (λ ts. seen_with c.loop-row.seen (all (map params ts))) c.as_slice.ensures ∙ sym (with_group_trees c.loop-row.seen c.row-item.result))
    c.loop-row.invariant

pub returns : goal.returns
returns c =
    none_left (λ rows. seen_with c.loop-row.seen (flat_map row_params rows)) c.as_slice-row-items.result.now c.loop-row.row-index c.loop-row.seen _
    c.loop-row-test.false (with_nothing c.loop-row.seen) c.loop-row.invariant
    ∙ ap (λ s. seen_with s (flat_map row_params c.as_slice-row-items.result.now)) c.nothing_seen-seen.ensures
    ∙ ap (λ rows. seen_with nothing_seen (flat_map row_params rows)) c.as_slice-row-items.ensures
