use Rattle.std.proofs.Common.{rules, ◌∙◌, ap, refl}
use Rattle.cr_grouped.specs.Grouping.{as_made, is_out_of_place, without_collates}
use Rattle.cr_grouped.proofs.Finishing.{groups_want, groups_refused, groups_found}
use Rattle.cr_grouped.proofs.select.grouped.Goals as goal

pub returns-in_err-terms : goal.returns-in_err-terms
returns-in_err-terms c =
    let why = groups_want (as_made c.args.is_misplaced c.args.named.now) in
    search rules

pub returns-then-is_out_of_place : goal.returns-then-is_out_of_place
returns-then-is_out_of_place c =
    let n = as_made c.args.is_misplaced c.args.named.now in
    groups_refused n c.is_grouped-is_grouped.result c.in_ok-terms.terms c.is_out_of_place.result c.is_grouped-is_grouped.ensures
    (c.in_ok-terms.ensures ∙ ap without_collates c.as_slice.ensures)
    (c.is_out_of_place.ensures ∙ ap (λ ts. is_out_of_place c.is_grouped-is_grouped.result ts n) c.as_slice-2.ensures) c.if-is_out_of_place.true

pub same-terms : goal.same-terms
same-terms c = refl

pub returns : goal.returns
returns c =
    let n = as_made c.args.is_misplaced c.args.named.now in
    groups_found n c.is_grouped-is_grouped.result c.in_ok-terms.terms c.is_out_of_place.result c.is_grouped-is_grouped.ensures
    (c.in_ok-terms.ensures ∙ ap without_collates c.as_slice.ensures)
    (c.is_out_of_place.ensures ∙ ap (λ ts. is_out_of_place c.is_grouped-is_grouped.result ts n) c.as_slice-2.ensures) c.if-is_out_of_place.false
