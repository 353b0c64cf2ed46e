use Rattle.std.proofs.Common.{◌∙◌, map, sym, ap}
use Rattle.std.specs.List.{flat_map}
use Rattle.cr_resolve.specs.Queries.{or_none}
use Rattle.cr_resolve.specs.Trees.{all, casts}
use Rattle.cr_resolved.specs.Casts.{or_outside}
use Rattle.cr_resolved.proofs.Outside.{or_group}
use Rattle.cr_resolved.proofs.Nodes.{carried}
use Rattle.cr_resolved.proofs.casts.or_group_casts.Goals as goal

pub returns-in-Some : goal.returns-in-Some
returns-in-Some c =
    carried c.or_any_casts.result _ _
    (ap (λ ts. or_outside c.args.found (all (map casts ts))) c.as_slice.ensures ∙ sym (or_group c.args.found c.in-Some.trees)
    ∙ ap (λ g. or_outside c.args.found (flat_map casts (or_none g))) (sym c.in-Some.is))
    c.or_any_casts.ensures
