use Rattle.std.proofs.Common.{◌∙◌, ap, subst, map}
use Rattle.std.specs.Option.{option_and_then}
use Rattle.cr_scalar.specs.Host.{host}
use Rattle.cr_bags.specs.Bags.{gather}
use Rattle.cr_query.specs.Query.{groups}
use Rattle.cr_meaning.specs.View.{group_term}
use Rattle.cr_exec.specs.Answers.{Answers}
use Rattle.cr_exec.specs.Groups.{judged_by, result_expr, order_expr}
use Rattle.cr_exec.specs.Scopes.{there}
use Rattle.cr_exec.specs.Shows.{shown_of}
use Rattle.cr_exec.proofs.Selected.{grouped_shown, plain_shown}
use Rattle.cr_exec.proofs.select.show_asked.Goals as goal

pub returns-then-query : goal.returns-then-query
returns-then-query g c =
    let h = host (g.F.Functions.function_of c.args.functions.now) (g.F.Functions.scalar c.args.functions.now) (g.F.Functions.step c.args.functions.now) (g.F.Functions.finish c.args.functions.now) (g.F.Functions.order_of c.args.functions.now) in
    grouped_shown h c.args.params.now c.args.query.now c.as_slice-results.result.now c.as_slice-keys.result.now
    (ap (map there) c.as_slice-results.ensures.value ∙ c.in_ok-results.ensures ∙ ap (map result_expr) c.as_slice.ensures)
    (ap (map there) c.as_slice-keys.ensures.value ∙ c.in_ok-keys.ensures ∙ ap (map order_expr) c.as_slice-2.ensures)
    (λ v. map shown_of v.items) c.if-query.true c.args.combinations.now c.show_groups.result
    (subst (λ gs. Answers h c.args.params.now c.show_groups.result (λ v. map shown_of v.items) (λ m. option_and_then (gather (λ k. judged_by m (λ e. m.over e k) c.args.query.now.having c.as_slice-results.result.now c.as_slice-keys.result.now)) (groups m (map group_term gs) c.args.combinations.now))) c.as_slice-terms.ensures c.show_groups.ensures)

pub returns : goal.returns
returns g c =
    let h = host (g.F.Functions.function_of c.args.functions.now) (g.F.Functions.scalar c.args.functions.now) (g.F.Functions.step c.args.functions.now) (g.F.Functions.finish c.args.functions.now) (g.F.Functions.order_of c.args.functions.now) in
    plain_shown h c.args.params.now c.args.query.now c.as_slice-results.result.now c.as_slice-keys.result.now
    (ap (map there) c.as_slice-results.ensures.value ∙ c.in_ok-results.ensures ∙ ap (map result_expr) c.as_slice.ensures)
    (ap (map there) c.as_slice-keys.ensures.value ∙ c.in_ok-keys.ensures ∙ ap (map order_expr) c.as_slice-2.ensures)
    (λ v. map shown_of v.items) c.if-query.false c.args.combinations.now c.show_each.result c.show_each.ensures
