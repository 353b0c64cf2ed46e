use Rattle.std.proofs.Common.{◌∙◌, ap, subst, sym, rules, [], ◌∷◌, ◌++◌, map, option_map}
use Rattle.cr_scalar.specs.Host.{host}
use Rattle.cr_bags.specs.Bags.{each, single}
use Rattle.cr_query.proofs.PlanLaws.{gather-map}
use Rattle.cr_meaning.specs.Meaning.{regarded}
use Rattle.cr_exec.specs.Answers.{Faults, IsMeant}
use Rattle.cr_exec.specs.Scopes.{in_scope, there}
use Rattle.cr_exec.proofs.Loops.{starts, gather_ends, gather_next, gather_fails, one_behind, none_single}
use Rattle.cr_exec.proofs.value.values_in.Goals as goal

pub loop-expr-init : goal.loop-expr-init
loop-expr-init g c =
    let h = host (g.F.Functions.function_of c.args.functions.now) (g.F.Functions.scalar c.args.functions.now) (g.F.Functions.step c.args.functions.now) (g.F.Functions.finish c.args.functions.now) (g.F.Functions.order_of c.args.functions.now) in
    starts h c.args.params.now (λ m e. option_map single (in_scope m c.args.scope (there e))) (λ m. each (in_scope m c.args.scope) (map there c.args.exprs.now)) c.args.exprs.now c.new-values.result.items c.new-values.ensures.items
    (λ regard. sym (gather-map there (λ e. option_map single (in_scope (regarded regard h c.args.params.now) c.args.scope e)) c.args.exprs.now))

pub loop-expr-preserved : goal.loop-expr-preserved
loop-expr-preserved g c =
    let h = host (g.F.Functions.function_of c.args.functions.now) (g.F.Functions.scalar c.args.functions.now) (g.F.Functions.step c.args.functions.now) (g.F.Functions.finish c.args.functions.now) (g.F.Functions.order_of c.args.functions.now) in
    gather_next h c.args.params.now (λ m e. option_map single (in_scope m c.args.scope (there e))) (λ m. each (in_scope m c.args.scope) (map there c.args.exprs.now)) c.args.exprs.now c.loop-expr.expr-index c.expr-item.result c.loop-expr.values.items c.push.new.out.items c.loop-expr-test.true c.expr-item.is
    (one_behind h c.args.params.now (λ m. in_scope m c.args.scope (there c.expr-item.result)) c.in_ok-value.value c.loop-expr.values.items c.push.new.out.items (c.in_ok-push.ensures.puts ∙ ap (λ v. c.loop-expr.values.items ++ v ∷ []) c.in_ok-value-2.ensures) c.in_ok-value.ensures)
    c.loop-expr.invariant

pub returns-in_err-value : goal.returns-in_err-value
returns-in_err-value g c =
    let h = host (g.F.Functions.function_of c.args.functions.now) (g.F.Functions.scalar c.args.functions.now) (g.F.Functions.step c.args.functions.now) (g.F.Functions.finish c.args.functions.now) (g.F.Functions.order_of c.args.functions.now) in
    let why : Faults h c.args.params.now (λ m. each (in_scope m c.args.scope) (map there c.args.exprs.now)) c.in_err-value.field-0.0 =
    gather_fails h c.args.params.now (λ m e. option_map single (in_scope m c.args.scope (there e))) (λ m. each (in_scope m c.args.scope) (map there c.args.exprs.now)) c.args.exprs.now c.loop-expr.expr-index c.expr-item.result c.loop-expr.values.items c.in_err-value.field-0.0 c.loop-expr-test.true c.expr-item.is
    (none_single h c.args.params.now (λ m. in_scope m c.args.scope (there c.expr-item.result)) c.in_err-value.field-0.0 c.in_err-value.ensures) c.loop-expr.invariant in
    search rules

pub returns : goal.returns
returns g c =
    let h = host (g.F.Functions.function_of c.args.functions.now) (g.F.Functions.scalar c.args.functions.now) (g.F.Functions.step c.args.functions.now) (g.F.Functions.finish c.args.functions.now) (g.F.Functions.order_of c.args.functions.now) in
    subst (IsMeant h c.args.params.now (λ m. each (in_scope m c.args.scope) (map there c.args.exprs.now))) (sym c.new.ensures)
    (gather_ends h c.args.params.now (λ m e. option_map single (in_scope m c.args.scope (there e))) (λ m. each (in_scope m c.args.scope) (map there c.args.exprs.now)) c.args.exprs.now c.loop-expr.expr-index c.loop-expr.values.items c.loop-expr-test.false c.loop-expr.invariant)
