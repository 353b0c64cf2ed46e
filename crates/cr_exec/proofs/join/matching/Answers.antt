use Rattle.std.proofs.Common.{◌∙◌, subst, map, rules, ◌++◌}
use Rattle.cr_scalar.specs.Host.{host}
use Rattle.cr_bags.specs.Bags.{those, single}
use Rattle.cr_query.specs.Query.{all_true, with_rows}
use Rattle.cr_meaning.specs.Meaning.{regarded}
use Rattle.cr_exec.specs.Answers.{Faults, IsMeant, behind}
use Rattle.cr_exec.specs.Groups.{row_there}
use Rattle.cr_exec.specs.Scopes.{there}
use Rattle.cr_exec.proofs.Loops.{starts, gather_ends, gather_fails, gather_next}
use Rattle.cr_exec.proofs.Tails.{those_there}
use Rattle.cr_exec.proofs.join.matching.Goals as goal

pub loop-row-init : goal.loop-row-init
loop-row-init g c =
    let h = host (g.F.Functions.function_of c.args.functions.now) (g.F.Functions.scalar c.args.functions.now) (g.F.Functions.step c.args.functions.now) (g.F.Functions.finish c.args.functions.now) (g.F.Functions.order_of c.args.functions.now) in
    starts h c.args.params.now (λ m r. those (all_true m (map there c.args.terms.now)) (single (c.args.combination.now ++ row_there r))) (λ m. those (all_true m (map there c.args.terms.now)) (with_rows c.args.combination.now (map row_there c.args.rows.now))) c.args.rows.now c.new-out.result.items c.new-out.ensures.items
    (λ regard. those_there (all_true (regarded regard h c.args.params.now) (map there c.args.terms.now)) c.args.combination.now c.args.rows.now)

pub loop-row-preserved : goal.loop-row-preserved
loop-row-preserved g c =
    let h = host (g.F.Functions.function_of c.args.functions.now) (g.F.Functions.scalar c.args.functions.now) (g.F.Functions.step c.args.functions.now) (g.F.Functions.finish c.args.functions.now) (g.F.Functions.order_of c.args.functions.now) in
    gather_next h c.args.params.now (λ m r. those (all_true m (map there c.args.terms.now)) (single (c.args.combination.now ++ row_there r))) (λ m. those (all_true m (map there c.args.terms.now)) (with_rows c.args.combination.now (map row_there c.args.rows.now))) c.args.rows.now c.loop-row.row-index c.row-item.result c.loop-row.out.items c.keep.new.out.items c.loop-row-test.true c.row-item.is
    (subst (λ d. IsMeant h c.args.params.now (λ m. behind c.loop-row.out.items (those (all_true m (map there c.args.terms.now)) (single d))) c.keep.new.out.items) (c.as_slice.ensures ∙ c.in_ok-more.ensures) c.in_ok-keep.ensures)
    c.loop-row.invariant

pub returns-in_err-keep : goal.returns-in_err-keep
returns-in_err-keep g c =
    let h = host (g.F.Functions.function_of c.args.functions.now) (g.F.Functions.scalar c.args.functions.now) (g.F.Functions.step c.args.functions.now) (g.F.Functions.finish c.args.functions.now) (g.F.Functions.order_of c.args.functions.now) in
    let why : Faults h c.args.params.now (λ m. those (all_true m (map there c.args.terms.now)) (with_rows c.args.combination.now (map row_there c.args.rows.now))) c.in_err-keep.field-0.0 =
    gather_fails h c.args.params.now (λ m r. those (all_true m (map there c.args.terms.now)) (single (c.args.combination.now ++ row_there r))) (λ m. those (all_true m (map there c.args.terms.now)) (with_rows c.args.combination.now (map row_there c.args.rows.now))) c.args.rows.now c.loop-row.row-index c.row-item.result c.loop-row.out.items c.in_err-keep.field-0.0 c.loop-row-test.true c.row-item.is
    (subst (λ d. Faults h c.args.params.now (λ m. those (all_true m (map there c.args.terms.now)) (single d)) c.in_err-keep.field-0.0) (c.as_slice.ensures ∙ c.in_ok-more.ensures) c.in_err-keep.ensures) c.loop-row.invariant in
    search rules

pub returns : goal.returns
returns g c =
    let h = host (g.F.Functions.function_of c.args.functions.now) (g.F.Functions.scalar c.args.functions.now) (g.F.Functions.step c.args.functions.now) (g.F.Functions.finish c.args.functions.now) (g.F.Functions.order_of c.args.functions.now) in
    gather_ends h c.args.params.now (λ m r. those (all_true m (map there c.args.terms.now)) (single (c.args.combination.now ++ row_there r))) (λ m. those (all_true m (map there c.args.terms.now)) (with_rows c.args.combination.now (map row_there c.args.rows.now))) c.args.rows.now c.loop-row.row-index c.loop-row.out.items c.loop-row-test.false c.loop-row.invariant
