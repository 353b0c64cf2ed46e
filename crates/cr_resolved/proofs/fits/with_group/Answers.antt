use Rattle.std.proofs.Common.{◌∙◌, map, sym, ap}
use Rattle.std.specs.List.{flat_map}
use Rattle.cr_resolve.specs.Queries.{or_none}
use Rattle.cr_resolve.specs.Trees.{all, params}
use Rattle.cr_resolved.specs.Fits.{seen_with}
use Rattle.cr_resolved.proofs.Seen.{with_group_trees}
use Rattle.cr_resolved.proofs.fits.with_group.Goals as goal

pub returns-in-Some : goal.returns-in-Some
returns-in-Some c =
    c.with_trees.ensures ∙ ap (λ ts. seen_with c.args.seen (all (map params ts))) c.as_slice.ensures ∙ sym (with_group_trees c.args.seen c.in-Some.trees)
    ∙ ap (λ g. seen_with c.args.seen (flat_map params (or_none g))) (sym c.in-Some.is)
