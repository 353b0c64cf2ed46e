use Rattle.std.proofs.Common.{◌∙◌, ap, map}
use Rattle.cr_bags.specs.Bags.{sort, firsts}
use Rattle.cr_query.specs.Query.{row_cmp}
use Rattle.cr_exec.specs.Comparisons.{held_order}
use Rattle.cr_exec.specs.Groups.{row_there}
use Rattle.cr_exec.specs.Shows.{ties_by}
use Rattle.cr_exec.proofs.Orders.{of_ok, row_total, row_exact}
use Rattle.cr_exec.proofs.Runs.{firsts_sorted}
use Rattle.cr_exec.proofs.group.classes.Goals as goal

pub returns : goal.returns
returns g c =
    let Rs = map (held_order (g.F.Functions.order_at c.args.functions.now)) c.args.senses.now in
    of_ok _ _ c.copies.result
    (λ v is. is ∙ ap (map row_there) c.as_slice.ensures.value
    ∙ firsts_sorted row_cmp row_total row_exact (ties_by Rs) row_there c.in_ok-keys.keys.items c.in_ok-keys-2.keys.items c.in_ok-least.least.items c.in_ok-least-2.least.items c.in_ok-keys-2.ensures c.in_ok-least.ensures c.in_ok-least-2.ensures
    ∙ ap (λ ks. firsts (ties_by Rs) (sort row_cmp ks)) c.in_ok-keys.ensures)
    c.copies.ensures
