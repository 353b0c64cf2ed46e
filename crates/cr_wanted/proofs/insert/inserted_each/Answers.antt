use Rattle.std.proofs.Common.{subst, map, option_map, rules}
use Rattle.cr_scalar.specs.Host.{host}
use Rattle.cr_bags.specs.Bags.{each, single}
use Rattle.cr_query.specs.Writes as writes
use Rattle.cr_meaning.specs.View.{plain}
use Rattle.cr_exec.specs.Answers.{Faults, IsMeant}
use Rattle.cr_exec.proofs.Loops.{gather_ends, gather_next, gather_fails, one_behind, none_single}
use Rattle.cr_wanted.proofs.insert.inserted_each.Goals as goal

pub loop-tuple-preserved : goal.loop-tuple-preserved
loop-tuple-preserved g c =
    let h = host (g.F.Functions.function_of c.args.functions.now) (g.F.Functions.scalar c.args.functions.now) (g.F.Functions.step c.args.functions.now) (g.F.Functions.finish c.args.functions.now) (g.F.Functions.order_of c.args.functions.now) in
    gather_next h c.args.params.now (λ m t. option_map single (writes.inserted m c.args.columns.now c.args.places.now (map plain t))) (λ m. each (λ t. writes.inserted m c.args.columns.now c.args.places.now (map plain t)) c.args.tuples.now) c.args.tuples.now c.loop-tuple.tuple-index c.tuple-item.result c.loop-tuple.out.items c.push.new.out.items c.loop-tuple-test.true c.tuple-item.is
    (one_behind h c.args.params.now (λ m. writes.inserted m c.args.columns.now c.args.places.now (map plain c.tuple-item.result)) c.in_ok-row.row c.loop-tuple.out.items c.push.new.out.items c.in_ok-push.ensures.puts
    (subst (λ t. IsMeant h c.args.params.now (λ m. writes.inserted m c.args.columns.now c.args.places.now (map plain t)) c.in_ok-row.row) c.as_slice.ensures c.in_ok-row.ensures))
    c.loop-tuple.invariant

pub returns-in_err-row : goal.returns-in_err-row
returns-in_err-row g c =
    let h = host (g.F.Functions.function_of c.args.functions.now) (g.F.Functions.scalar c.args.functions.now) (g.F.Functions.step c.args.functions.now) (g.F.Functions.finish c.args.functions.now) (g.F.Functions.order_of c.args.functions.now) in
    let why : Faults h c.args.params.now (λ m. each (λ t. writes.inserted m c.args.columns.now c.args.places.now (map plain t)) c.args.tuples.now) c.in_err-row.field-0.0 =
    gather_fails h c.args.params.now (λ m t. option_map single (writes.inserted m c.args.columns.now c.args.places.now (map plain t))) (λ m. each (λ t. writes.inserted m c.args.columns.now c.args.places.now (map plain t)) c.args.tuples.now) c.args.tuples.now c.loop-tuple.tuple-index c.tuple-item.result c.loop-tuple.out.items c.in_err-row.field-0.0 c.loop-tuple-test.true c.tuple-item.is
    (none_single h c.args.params.now (λ m. writes.inserted m c.args.columns.now c.args.places.now (map plain c.tuple-item.result)) c.in_err-row.field-0.0
    (subst (λ t. Faults h c.args.params.now (λ m. writes.inserted m c.args.columns.now c.args.places.now (map plain t)) c.in_err-row.field-0.0) c.as_slice.ensures c.in_err-row.ensures)) c.loop-tuple.invariant in
    search rules

pub returns : goal.returns
returns g c =
    let h = host (g.F.Functions.function_of c.args.functions.now) (g.F.Functions.scalar c.args.functions.now) (g.F.Functions.step c.args.functions.now) (g.F.Functions.finish c.args.functions.now) (g.F.Functions.order_of c.args.functions.now) in
    gather_ends h c.args.params.now (λ m t. option_map single (writes.inserted m c.args.columns.now c.args.places.now (map plain t))) (λ m. each (λ t. writes.inserted m c.args.columns.now c.args.places.now (map plain t)) c.args.tuples.now) c.args.tuples.now c.loop-tuple.tuple-index c.loop-tuple.out.items c.loop-tuple-test.false c.loop-tuple.invariant
