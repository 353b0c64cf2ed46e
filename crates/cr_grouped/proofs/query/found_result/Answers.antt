use Rattle.std.proofs.Common.{◌≡◌, ◌∙◌, Bool, sym, subst}
use Rattle.cr_resolve.specs.Queries.{found_result}
use Rattle.cr_grouped.specs.Grouping.{exprs_shown}
use Rattle.cr_grouped.proofs.Within.{beside_distinct}
use Rattle.cr_grouped.proofs.query.found_result.Goals as goal

pub returns-then-is_distinct : goal.returns-then-is_distinct
returns-then-is_distinct c =
    subst (λ (d : Bool). c.result_place.result ≡ found_result d (exprs_shown c.args.columns.now) c.args.expr.now) (sym c.if-is_distinct.true)
    (c.result_place.ensures ∙ beside_distinct c.args.columns.now c.args.expr.now)
