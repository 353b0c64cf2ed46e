use Rattle.std.proofs.Common.{◌∙◌, false, refl, ap}
use Rattle.std.specs.List.{flat_map}
use Rattle.cr_resolved.specs.Casts.{or_outside, shown_casts}
use Rattle.cr_resolved.proofs.Outside.{in_select}
use Rattle.cr_resolved.proofs.Nodes.{carried}
use Rattle.cr_resolved.proofs.casts.in_select.Goals as goal

pub returns : goal.returns
returns c =
    carried c.or_order_casts.result _ _
    (in_select c.args.select.now c.in_ok-found.found c.in_ok-found-2.found c.in_ok-found-3.found c.in_ok-found-4.found c.in_ok-found-5.found _
    (c.in_ok-found.ensures ∙ ap (λ xs. or_outside false (flat_map shown_casts xs)) c.as_slice.ensures)
    c.in_ok-found-2.ensures c.in_ok-found-3.ensures c.in_ok-found-4.ensures c.in_ok-found-5.ensures refl)
    c.or_order_casts.ensures
