use Rattle.cr_scalar.specs.Host.{orders}
use Rattle.cr_exec.specs.Comparisons.{group_order}
use Rattle.cr_exec.proofs.Sorted.{sense_pushed}
use Rattle.cr_exec.proofs.compare.senses_of_groups.Goals as goal

pub loop-term-preserved : goal.loop-term-preserved
loop-term-preserved g c =
    sense_pushed (g.F.Functions.order_at c.args.functions.now) (group_order (orders (g.F.Functions.order_of c.args.functions.now))) c.args.terms.now c.loop-term.term-index c.term-item.result c.sense_named.result c.loop-term.senses.items c.push.new.self.items c.loop-term-test.true c.term-item.is c.sense_named.ensures c.in_ok-push.ensures.items c.loop-term.invariant
