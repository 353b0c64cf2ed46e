use Rattle.std.proofs.Common.{rules}
use Rattle.cr_grouped.proofs.Within.{ordered}
use Rattle.cr_grouped.proofs.query.order_term.Goals as goal

pub returns-in_err-expr : goal.returns-in_err-expr
returns-in_err-expr c = search rules

pub returns-in_err-collation : goal.returns-in_err-collation
returns-in_err-collation c = search rules

pub returns : goal.returns
returns c =
    let made =
    ordered c.args.is_distinct c.args.is_grouped c.args.terms.now c.args.columns.now c.args.term.now c.in_ok-expr.expr c.found_result-found.result c.in_ok-collation.collation
    c.in_ok-expr.ensures c.found_result-found.ensures c.in_ok-collation.ensures in
    rw (c.or.ensures) made
