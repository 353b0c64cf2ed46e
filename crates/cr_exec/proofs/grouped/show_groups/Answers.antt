use Rattle.std.proofs.Common.{◌∙◌, [], map, option_map, sym}
use Rattle.std.specs.Option.{option_and_then}
use Rattle.cr_scalar.specs.Host.{host}
use Rattle.cr_bags.specs.Bags.{each, gather}
use Rattle.cr_query.specs.Query.{groups, groups_of, keyed}
use Rattle.cr_meaning.specs.View.{group_term}
use Rattle.cr_exec.specs.Groups.{judged_by}
use Rattle.cr_exec.specs.Shows.{shown_of}
use Rattle.cr_exec.proofs.ByClass.{answers_on}
use Rattle.cr_exec.proofs.Grouping.{one_group, under_terms}
use Rattle.cr_exec.proofs.grouped.show_groups.Goals as goal

pub returns-then-is_empty : goal.returns-then-is_empty
returns-then-is_empty g c =
    let h = host (g.F.Functions.function_of c.args.functions.now) (g.F.Functions.scalar c.args.functions.now) (g.F.Functions.step c.args.functions.now) (g.F.Functions.finish c.args.functions.now) (g.F.Functions.order_of c.args.functions.now) in
    answers_on h c.args.params.now (λ m. judged_by m (λ e. m.over e (record { shown = []; members = c.args.combinations.now })) c.args.having.now c.args.results.now c.args.keys.now)
    (λ m. option_and_then (gather (λ g'. judged_by m (λ e. m.over e g') c.args.having.now c.args.results.now c.args.keys.now)) (groups m (map group_term c.args.terms.now) c.args.combinations.now)) (λ v. map shown_of v.items)
    (one_group h c.args.params.now c.args.terms.now c.args.combinations.now c.args.having.now c.args.results.now c.args.keys.now (sym c.is_empty.ensures ∙ c.if-is_empty.true)) c.show_all.result c.show_all.ensures

pub returns : goal.returns
returns g c =
    let h = host (g.F.Functions.function_of c.args.functions.now) (g.F.Functions.scalar c.args.functions.now) (g.F.Functions.step c.args.functions.now) (g.F.Functions.finish c.args.functions.now) (g.F.Functions.order_of c.args.functions.now) in
    answers_on h c.args.params.now (λ m. option_and_then (gather (λ g'. judged_by m (λ e. m.over e g') c.args.having.now c.args.results.now c.args.keys.now)) (option_map (groups_of m (map group_term c.args.terms.now)) (each (keyed m (map group_term c.args.terms.now)) c.args.combinations.now)))
    (λ m. option_and_then (gather (λ g'. judged_by m (λ e. m.over e g') c.args.having.now c.args.results.now c.args.keys.now)) (groups m (map group_term c.args.terms.now) c.args.combinations.now)) (λ v. map shown_of v.items)
    (under_terms h c.args.params.now c.args.terms.now c.args.combinations.now c.args.having.now c.args.results.now c.args.keys.now (sym c.is_empty.ensures ∙ c.if-is_empty.false)) c.show_under.result c.show_under.ensures
