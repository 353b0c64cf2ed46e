use Rattle.std.proofs.Common.{◌∙◌, ap}
use Rattle.std.specs.List.{flat_map}
use Rattle.cr_resolved.specs.Fits.{seen_with, nothing_seen, shown_params}
use Rattle.cr_resolved.proofs.Seen.{in_select}
use Rattle.cr_resolved.proofs.fits.of_select.Goals as goal

pub returns : goal.returns
returns c =
    in_select c.args.select.now c.with_shown-seen.result c.with_from-seen.result c.with_clause-seen.result c.with_group-seen.result c.with_clause-seen-2.result c.with_order.result
    (c.with_shown-seen.ensures ∙ ap (λ s. seen_with s (flat_map shown_params c.as_slice.result.now)) c.nothing_seen.ensures ∙ ap (λ xs. seen_with nothing_seen (flat_map shown_params xs)) c.as_slice.ensures)
    c.with_from-seen.ensures c.with_clause-seen.ensures c.with_group-seen.ensures c.with_clause-seen-2.ensures c.with_order.ensures
