use Rattle.std.proofs.Common.{◌∙◌, ap, sym, subst, map, ◌++◌, rules}
use Rattle.cr_scalar.specs.Host.{host}
use Rattle.cr_bags.specs.Bags.{gather}
use Rattle.cr_query.specs.Query.{with_rows}
use Rattle.cr_exec.specs.Answers.{Faults, IsMeant, behind}
use Rattle.cr_exec.specs.Combinations.{tail, left_with}
use Rattle.cr_exec.specs.Groups.{row_there}
use Rattle.cr_exec.specs.LookUps.{join_of, rows_of}
use Rattle.cr_exec.specs.Scopes.{there}
use Rattle.cr_exec.proofs.Loops.{gather_next}
use Rattle.cr_exec.proofs.Tails.{each_starts, each_fails}
use Rattle.cr_exec.proofs.LeftOut.{inner_adds, left_adds, left_faults}
use Rattle.cr_exec.proofs.join.+join.Goals as goal

pub join_each-loop-row-init : goal.join_each-loop-row-init
join_each-loop-row-init g t c =
    let h = host (g.F.Functions.function_of c.args.functions.now) (g.F.Functions.scalar c.args.functions.now) (g.F.Functions.step c.args.functions.now) (g.F.Functions.finish c.args.functions.now) (g.F.Functions.order_of c.args.functions.now) in
    each_starts h c.args.params.now (map there c.args.terms.now) (map join_of c.args.sources.now) (map rows_of c.args.sources.now) c.args.combination.now c.args.rows.now c.args.out.now.items

pub join_each-returns-in_err-join_rest : goal.join_each-returns-in_err-join_rest
join_each-returns-in_err-join_rest g t c =
    let h = host (g.F.Functions.function_of c.args.functions.now) (g.F.Functions.scalar c.args.functions.now) (g.F.Functions.step c.args.functions.now) (g.F.Functions.finish c.args.functions.now) (g.F.Functions.order_of c.args.functions.now) in
    let js = map join_of c.args.sources.now in
    let tables = map rows_of c.args.sources.now in
    let why : Faults h c.args.params.now (λ m. gather (tail m (map there c.args.terms.now) (map join_of c.args.sources.now) (map rows_of c.args.sources.now)) (with_rows c.args.combination.now (map row_there c.args.rows.now))) c.in_err-join_rest.field-0.0 =
    each_fails h c.args.params.now (map there c.args.terms.now) js tables c.args.combination.now c.args.rows.now c.args.out.now.items c.loop-row.row-index c.row-item.result c.loop-row.out.items c.in_err-join_rest.field-0.0 c.loop-row-test.true c.row-item.is
    (subst (λ d. Faults h c.args.params.now (λ m. tail m (map there c.args.terms.now) (map join_of c.args.sources.now) (map rows_of c.args.sources.now) d) c.in_err-join_rest.field-0.0) (c.as_slice.ensures ∙ c.in_ok-more.ensures) c.in_err-join_rest.ensures)
    c.loop-row.invariant in
    search rules

pub join_each-loop-row-preserved : goal.join_each-loop-row-preserved
join_each-loop-row-preserved g t c =
    let h = host (g.F.Functions.function_of c.args.functions.now) (g.F.Functions.scalar c.args.functions.now) (g.F.Functions.step c.args.functions.now) (g.F.Functions.finish c.args.functions.now) (g.F.Functions.order_of c.args.functions.now) in
    gather_next h c.args.params.now (λ m r. tail m (map there c.args.terms.now) (map join_of c.args.sources.now) (map rows_of c.args.sources.now) (c.args.combination.now ++ row_there r)) (λ m. behind c.args.out.now.items (gather (tail m (map there c.args.terms.now) (map join_of c.args.sources.now) (map rows_of c.args.sources.now)) (with_rows c.args.combination.now (map row_there c.args.rows.now)))) c.args.rows.now c.loop-row.row-index c.row-item.result c.loop-row.out.items c.join_rest.new.out.items c.loop-row-test.true c.row-item.is
    (subst (λ d. IsMeant h c.args.params.now (λ m. behind c.loop-row.out.items (tail m (map there c.args.terms.now) (map join_of c.args.sources.now) (map rows_of c.args.sources.now) d)) c.join_rest.new.out.items) (c.as_slice.ensures ∙ c.in_ok-more.ensures) c.in_ok-join_rest.ensures)
    c.loop-row.invariant

pub join_rest-returns-in_err-made : goal.join_rest-returns-in_err-made
join_rest-returns-in_err-made g t c =
    let h = host (g.F.Functions.function_of c.args.functions.now) (g.F.Functions.scalar c.args.functions.now) (g.F.Functions.step c.args.functions.now) (g.F.Functions.finish c.args.functions.now) (g.F.Functions.order_of c.args.functions.now) in
    let why : Faults h c.args.params.now (λ m. tail m (map there c.args.terms.now) (map join_of c.args.sources.now) (map rows_of c.args.sources.now) c.args.combination.now) c.in_err-made.field-0.0 =
    left_faults h c.args.params.now (map there c.args.terms.now) c.requires.quiet_first c.args.sources.now c.in-Some.source.now c.in-Some.later.now c.in-Some.ensures.cases.0 c.args.combination.now c.requires.sound c.in_ok-wanted.wanted c.in_ok-wanted.ensures (map row_there c.rows_with-rows.result.now) c.rows_with-rows.ensures
    c.if-source.true c.in_err-made.field-0.0 c.in_err-made.ensures in
    search rules

pub join_rest-returns-then-source : goal.join_rest-returns-then-source
join_rest-returns-then-source g t c =
    let h = host (g.F.Functions.function_of c.args.functions.now) (g.F.Functions.scalar c.args.functions.now) (g.F.Functions.step c.args.functions.now) (g.F.Functions.finish c.args.functions.now) (g.F.Functions.order_of c.args.functions.now) in
    let same = ap (map row_there) c.as_slice-rows.ensures.value ∙ c.in_ok-made-2.ensures ∙ c.as_slice.ensures.value in
    left_adds h c.args.params.now (map there c.args.terms.now) c.requires.quiet_first c.args.sources.now c.in-Some.source.now c.in-Some.later.now c.in-Some.ensures.cases.0 c.args.combination.now c.requires.sound c.in_ok-wanted.wanted c.in_ok-wanted.ensures (map row_there c.rows_with-rows.result.now) c.rows_with-rows.ensures
    c.if-source.true (map row_there c.as_slice-rows.result.now)
    (subst (IsMeant h c.args.params.now (λ m. left_with m c.in-Some.source.now.join.now (map row_there c.rows_with-rows.result.now) c.args.combination.now)) (sym same) c.in_ok-made.ensures)
    c.args.out.now.items c.join_each.new.out.items c.join_each.result c.join_each.ensures

pub join_rest-returns : goal.join_rest-returns
join_rest-returns g t c =
    let h = host (g.F.Functions.function_of c.args.functions.now) (g.F.Functions.scalar c.args.functions.now) (g.F.Functions.step c.args.functions.now) (g.F.Functions.finish c.args.functions.now) (g.F.Functions.order_of c.args.functions.now) in
    inner_adds h c.args.params.now (map there c.args.terms.now) c.requires.quiet_first c.args.sources.now c.in-Some.source.now c.in-Some.later.now c.in-Some.ensures.cases.0 c.args.combination.now c.requires.sound c.in_ok-wanted.wanted c.in_ok-wanted.ensures (map row_there c.rows_with-rows.result.now) c.rows_with-rows.ensures
    c.if-source.false c.args.out.now.items c.join_each-2.new.out.items c.join_each-2.result c.join_each-2.ensures
