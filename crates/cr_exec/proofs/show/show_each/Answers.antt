use Rattle.std.proofs.Common.{◌∙◌, ap, subst, map, option_map, [], ◌∷◌, rules}
use Rattle.std.proofs.lemmas.List.{map-append}
use Rattle.cr_scalar.specs.Host.{host}
use Rattle.cr_bags.specs.Bags.{each, single}
use Rattle.cr_query.specs.Query.{pair}
use Rattle.cr_exec.specs.Answers.{Faults, IsMeant}
use Rattle.cr_exec.specs.Scopes.{there}
use Rattle.cr_exec.specs.Shows.{shown_of}
use Rattle.cr_exec.proofs.Loops.{gather_ends, gather_next, gather_fails, one_behind, none_single}
use Rattle.cr_exec.proofs.show.show_each.Goals as goal

pub loop-combination-preserved : goal.loop-combination-preserved
loop-combination-preserved g c =
    let h = host (g.F.Functions.function_of c.args.functions.now) (g.F.Functions.scalar c.args.functions.now) (g.F.Functions.step c.args.functions.now) (g.F.Functions.finish c.args.functions.now) (g.F.Functions.order_of c.args.functions.now) in
    gather_next h c.args.params.now (λ m d. option_map single (pair (each (λ e. m.value e d) (map there c.args.results.now)) (each (λ e. m.value e d) (map there c.args.keys.now)))) (λ m. each (λ d. pair (each (λ e. m.value e d) (map there c.args.results.now)) (each (λ e. m.value e d) (map there c.args.keys.now))) c.args.combinations.now) c.args.combinations.now c.loop-combination.combination-index c.combination-item.result (map shown_of c.loop-combination.out.items) (map shown_of c.push.new.out.items) c.loop-combination-test.true c.combination-item.is
    (one_behind h c.args.params.now (λ m. pair (each (λ e. m.value e c.combination-item.result) (map there c.args.results.now)) (each (λ e. m.value e c.combination-item.result) (map there c.args.keys.now))) (shown_of c.in_ok-shown.shown) (map shown_of c.loop-combination.out.items) (map shown_of c.push.new.out.items)
    (ap (map shown_of) c.in_ok-push.ensures.puts ∙ map-append shown_of c.loop-combination.out.items (c.in_ok-shown.shown ∷ []))
    (subst (λ d. IsMeant h c.args.params.now (λ m. pair (each (λ e. m.value e d) (map there c.args.results.now)) (each (λ e. m.value e d) (map there c.args.keys.now))) (shown_of c.in_ok-shown.shown)) c.as_slice.ensures c.in_ok-shown.ensures))
    c.loop-combination.invariant

pub returns-in_err-shown : goal.returns-in_err-shown
returns-in_err-shown g c =
    let h = host (g.F.Functions.function_of c.args.functions.now) (g.F.Functions.scalar c.args.functions.now) (g.F.Functions.step c.args.functions.now) (g.F.Functions.finish c.args.functions.now) (g.F.Functions.order_of c.args.functions.now) in
    let why : Faults h c.args.params.now (λ m. each (λ d. pair (each (λ e. m.value e d) (map there c.args.results.now)) (each (λ e. m.value e d) (map there c.args.keys.now))) c.args.combinations.now) c.in_err-shown.field-0.0 =
    gather_fails h c.args.params.now (λ m d. option_map single (pair (each (λ e. m.value e d) (map there c.args.results.now)) (each (λ e. m.value e d) (map there c.args.keys.now)))) (λ m. each (λ d. pair (each (λ e. m.value e d) (map there c.args.results.now)) (each (λ e. m.value e d) (map there c.args.keys.now))) c.args.combinations.now) c.args.combinations.now c.loop-combination.combination-index c.combination-item.result (map shown_of c.loop-combination.out.items) c.in_err-shown.field-0.0 c.loop-combination-test.true c.combination-item.is
    (none_single h c.args.params.now (λ m. pair (each (λ e. m.value e c.combination-item.result) (map there c.args.results.now)) (each (λ e. m.value e c.combination-item.result) (map there c.args.keys.now))) c.in_err-shown.field-0.0 (subst (λ d. Faults h c.args.params.now (λ m. pair (each (λ e. m.value e d) (map there c.args.results.now)) (each (λ e. m.value e d) (map there c.args.keys.now))) c.in_err-shown.field-0.0) c.as_slice.ensures c.in_err-shown.ensures)) c.loop-combination.invariant in
    search rules

pub returns : goal.returns
returns g c =
    let h = host (g.F.Functions.function_of c.args.functions.now) (g.F.Functions.scalar c.args.functions.now) (g.F.Functions.step c.args.functions.now) (g.F.Functions.finish c.args.functions.now) (g.F.Functions.order_of c.args.functions.now) in
    gather_ends h c.args.params.now (λ m d. option_map single (pair (each (λ e. m.value e d) (map there c.args.results.now)) (each (λ e. m.value e d) (map there c.args.keys.now)))) (λ m. each (λ d. pair (each (λ e. m.value e d) (map there c.args.results.now)) (each (λ e. m.value e d) (map there c.args.keys.now))) c.args.combinations.now) c.args.combinations.now c.loop-combination.combination-index (map shown_of c.loop-combination.out.items) c.loop-combination-test.false c.loop-combination.invariant
