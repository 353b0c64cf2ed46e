use Rattle.std.proofs.Common.{rules, ◌∙◌, List, ap, sym, subst}
use Rattle.cr_term.specs.declared.query.OrderTerm.{OrderTerm}
use Rattle.cr_resolve.specs.Told.{Refuses}
use Rattle.cr_grouped.specs.Finished.{unsorted}
use Rattle.cr_grouped.proofs.Finishing.{finished_want, finished_refused, finished_made}
use Rattle.cr_grouped.proofs.select.finished.Goals as goal

pub returns-in_err-query : goal.returns-in_err-query
returns-in_err-query c =
    let why = finished_want c.args.select.now c.args.grouping.is_grouped c.args.grouping.terms c.args.named in
    search rules

pub returns-in_err-check_order : goal.returns-in_err-check_order
returns-in_err-check_order c =
    let q = c.args.select.now in
    let why =
    finished_refused q c.args.grouping.is_grouped c.args.grouping.terms c.args.named c.in_ok-query.query c.in_ok-query.ensures c.in_err-check_order.field-0.0
    (subst (λ (os : List OrderTerm). Refuses (unsorted q.distinct os) c.in_err-check_order.field-0.0) c.as_slice.ensures c.in_err-check_order.ensures) in
    search rules

pub returns : goal.returns
returns c =
    let q = c.args.select.now in
    finished_made q c.args.grouping.is_grouped c.args.grouping.terms c.args.named c.in_ok-query.query c.in_ok-query.ensures
    (sym (ap (unsorted q.distinct) c.as_slice.ensures) ∙ c.in_ok-check_order.ensures)
