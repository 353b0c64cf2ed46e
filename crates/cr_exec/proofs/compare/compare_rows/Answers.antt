use Rattle.cr_exec.proofs.Sorted.{place_decides, place_ties}
use Rattle.cr_exec.proofs.compare.compare_rows.Goals as goal

pub returns-then-is_ne : goal.returns-then-is_ne
returns-then-is_ne g c =
    place_decides (g.F.Functions.order_at c.args.functions.now) c.args.senses.now c.args.a.now c.args.b.now c.loop-place.place _ c.compare_at-order.result _ c.is_ne.result c.loop-place-test.true c.compare_at-order.ensures c.is_ne.ensures c.loop-place.invariant c.if-is_ne.true

pub loop-place-preserved : goal.loop-place-preserved
loop-place-preserved g c =
    place_ties (g.F.Functions.order_at c.args.functions.now) c.args.senses.now c.args.a.now c.args.b.now c.loop-place.place _ c.compare_at-order.result _ c.is_ne.result c.loop-place-test.true c.compare_at-order.ensures c.is_ne.ensures c.loop-place.invariant c.if-is_ne.false
