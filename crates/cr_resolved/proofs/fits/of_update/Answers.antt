use Rattle.std.proofs.Common.{◌∙◌, ap}
use Rattle.std.specs.Option.{option_to_list}
use Rattle.std.specs.List.{flat_map}
use Rattle.cr_resolved.specs.Fits.{seen_with, nothing_seen, assignment_params}
use Rattle.cr_resolved.proofs.Seen.{in_update}
use Rattle.cr_resolved.proofs.fits.of_update.Goals as goal

pub returns : goal.returns
returns c =
    in_update c.args.update.now.assignments (option_to_list c.args.update.now.filter) c.with_assignments-seen.result c.with_clause.result
    (c.with_assignments-seen.ensures ∙ ap (λ s. seen_with s (flat_map assignment_params c.as_slice.result.now)) c.nothing_seen.ensures ∙ ap (λ xs. seen_with nothing_seen (flat_map assignment_params xs)) c.as_slice.ensures)
    c.with_clause.ensures
