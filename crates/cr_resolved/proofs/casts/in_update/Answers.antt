use Rattle.std.proofs.Common.{◌∙◌, false, refl, ap}
use Rattle.std.specs.Option.{option_to_list}
use Rattle.std.specs.List.{flat_map}
use Rattle.cr_resolved.specs.Casts.{or_outside, assignment_casts}
use Rattle.cr_resolved.proofs.Outside.{in_update}
use Rattle.cr_resolved.proofs.Nodes.{carried}
use Rattle.cr_resolved.proofs.casts.in_update.Goals as goal

pub returns : goal.returns
returns c =
    carried c.or_clause_casts.result _ _
    (in_update c.args.update.now.assignments (option_to_list c.args.update.now.filter) c.in_ok-found.found _
    (c.in_ok-found.ensures ∙ ap (λ xs. or_outside false (flat_map assignment_casts xs)) c.as_slice.ensures) refl)
    c.or_clause_casts.ensures
