use Rattle.cr_scalar.specs.Host.{orders}
use Rattle.cr_exec.specs.Comparisons.{result_order}
use Rattle.cr_exec.proofs.Sorted.{sense_pushed}
use Rattle.cr_exec.proofs.compare.senses_of_results.Goals as goal

pub loop-column-preserved : goal.loop-column-preserved
loop-column-preserved g c =
    sense_pushed (g.F.Functions.order_at c.args.functions.now) (result_order (orders (g.F.Functions.order_of c.args.functions.now))) c.args.results.now c.loop-column.column-index c.column-item.result c.sense_named.result c.loop-column.senses.items c.push.new.self.items c.loop-column-test.true c.column-item.is c.sense_named.ensures c.in_ok-push.ensures.items c.loop-column.invariant
