use Rattle.std.proofs.Common.{rules, refl, ◌∙◌, ap, map}
use Rattle.cr_grouped.specs.Grouping.{ordered_in, shown_in}
use Rattle.cr_grouped.proofs.Finishing.{query_made}
use Rattle.cr_grouped.proofs.query.query_in.Goals as goal

pub returns-in_err-results : goal.returns-in_err-results
returns-in_err-results c = search rules

pub returns-in_err-having : goal.returns-in_err-having
returns-in_err-having c = search rules

pub returns-in_err-order : goal.returns-in_err-order
returns-in_err-order c = search rules

pub returns-in_err-filter : goal.returns-in_err-filter
returns-in_err-filter c = search rules

pub returns : goal.returns
returns c =
    let q = c.args.select.now in
    let g = c.args.is_grouped in
    let ts = c.as_slice-terms.result.now in
    query_made q g c.args.groups ts c.args.named c.in_ok-results.results c.in_ok-having.having c.in_ok-order.order c.in_ok-filter.filter c.count_limit.result c.offset_of.result
    c.as_slice-terms.ensures (c.in_ok-results.ensures ∙ ap (map (shown_in g ts)) c.as_slice.ensures) c.in_ok-having.ensures
    (c.in_ok-order.ensures ∙ (λ i. map (ordered_in q.distinct g ts (c.as_slice-2.ensures i)) (c.as_slice-3.ensures i)))
    c.in_ok-filter.ensures c.count_limit.ensures c.offset_of.ensures

pub same-results : goal.same-results
same-results c = refl

pub same-groups : goal.same-groups
same-groups c = refl

pub same-order : goal.same-order
same-order c = refl
