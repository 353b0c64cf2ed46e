use Rattle.std.proofs.Common.{◌∙◌, ap, sym, map, cond}
use Rattle.cr_scalar.specs.Host.{host}
use Rattle.cr_query.specs.Query.{distinct}
use Rattle.cr_meaning.specs.View.{result_term}
use Rattle.cr_meaning.specs.Meaning.{regarded}
use Rattle.cr_exec.specs.Shows.{shown_of}
use Rattle.cr_exec.proofs.Orders.{of_ok}
use Rattle.cr_exec.proofs.order.distinct_if_asked.Goals as goal

pub returns-then-query : goal.returns-then-query
returns-then-query g c =
    let h = host (g.F.Functions.function_of c.args.functions.now) (g.F.Functions.scalar c.args.functions.now) (g.F.Functions.step c.args.functions.now) (g.F.Functions.finish c.args.functions.now) (g.F.Functions.order_of c.args.functions.now) in
    of_ok _ _ c.distinct.result
    (λ v is regard params. is regard params
    ∙ ap (λ cs. distinct (regarded regard h params) (map result_term cs) (map shown_of c.args.shown.items)) c.as_slice.ensures
    ∙ ap (λ b. cond b (distinct (regarded regard h params) (map result_term c.args.query.now.results) (map shown_of c.args.shown.items)) (map shown_of c.args.shown.items)) (sym c.if-query.true))
    c.distinct.ensures
