use Rattle.std.proofs.Common.{◌∙◌, List, ap, map, subst}
use Rattle.cr_exec.specs.Groups.{order_expr, result_expr}
use Rattle.cr_exec.specs.Scopes.{there}
use Rattle.cr_term.specs.declared.expr.Expr.{Expr}
use Rattle.cr_tally.specs.Showing.{ShowsAll}
use Rattle.cr_tally.proofs.Overs.{exprs_there, shows_query}
use Rattle.cr_tally.proofs.over.over_group.Goals as goal

pub returns : goal.returns
returns c =
    let q = c.args.query.now in
    shows_query c.args.calls.now.items c.shown_having.new.calls.items c.shown_each.new.calls.items c.shown_each-2.new.calls.items q
    (record { having = c.in_ok-having.having; results = c.in_ok-results-2.results; keys = c.in_ok-keys-2.keys }) c.in_ok-having.ensures
    (subst (λ (es : List Expr). ShowsAll c.shown_having.new.calls.items c.shown_each.new.calls.items es c.in_ok-results-2.results.items)
    (exprs_there result_expr c.as_slice-3.result.now q.results (ap (map there) c.as_slice-3.ensures.value ∙ c.in_ok-results.ensures ∙ ap (map result_expr) c.as_slice.ensures)) c.in_ok-results-2.ensures)
    (subst (λ (es : List Expr). ShowsAll c.shown_each.new.calls.items c.shown_each-2.new.calls.items es c.in_ok-keys-2.keys.items)
    (exprs_there order_expr c.as_slice-4.result.now q.order (ap (map there) c.as_slice-4.ensures.value ∙ c.in_ok-keys.ensures ∙ ap (map order_expr) c.as_slice-2.ensures)) c.in_ok-keys-2.ensures)
