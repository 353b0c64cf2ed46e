use Rattle.std.proofs.Common.{◌≡◌, ◌∙◌, Bool, false, ap, sym, subst}
use Rattle.std.specs.List.{flat_map}
use Rattle.cr_select.specs.Placed.{or_bare}
use Rattle.cr_grouped.specs.Grouping.{as_made, is_out_of_place, order_bares, output_bares}
use Rattle.cr_grouped.proofs.Grouped.{told_before, no_groups, stands_bare}
use Rattle.cr_grouped.proofs.grouping.is_out_of_place.Goals as goal

pub returns-then-is_misplaced : goal.returns-then-is_misplaced
returns-then-is_misplaced c = sym (told_before c.args.is_grouped c.args.terms.now (as_made c.args.is_misplaced c.args.named.now) c.if-is_misplaced.true)

pub returns-then-not-is_grouped : goal.returns-then-not-is_grouped
returns-then-not-is_grouped c =
    subst (λ (g : Bool). false ≡ is_out_of_place g c.args.terms.now (as_made c.args.is_misplaced c.args.named.now)) (sym c.if-not-is_grouped.true) (sym (no_groups c.args.terms.now (as_made c.args.is_misplaced c.args.named.now) c.if-is_misplaced.false))

pub returns : goal.returns
returns c =
    subst (λ (g : Bool). c.or_order_bare.result ≡ is_out_of_place g c.args.terms.now (as_made c.args.is_misplaced c.args.named.now)) (sym c.if-not-is_grouped.false)
    (stands_bare c.args.terms.now (as_made c.args.is_misplaced c.args.named.now) c.or_results_bare-found.result c.or_having_bare-found.result c.or_order_bare.result c.if-is_misplaced.false
    (c.or_results_bare-found.ensures ∙ ap (λ os. or_bare false (flat_map (output_bares c.args.terms.now) os)) c.as_slice.ensures)
    c.or_having_bare-found.ensures
    (c.or_order_bare.ensures ∙ ap (λ ts. or_bare c.or_having_bare-found.result (flat_map (order_bares c.args.terms.now) ts)) c.as_slice-2.ensures))
