use Rattle.cr_select.specs.Aggregates.{or_any}
use Rattle.cr_questions.proofs.Collected.{next_act}
use Rattle.cr_select.proofs.Found.{or_more}
use Rattle.cr_grouped.specs.Grouping.{order_aggregates}
use Rattle.cr_grouped.proofs.grouping.or_in_order.Goals as goal

pub loop-term-preserved : goal.loop-term-preserved
loop-term-preserved c =
    next_act or_any or_more order_aggregates c.args.terms.now c.loop-term.term-index c.term-item.result
    c.loop-term.found c.or_aggregates-found.result _ c.loop-term-test.true c.term-item.is c.or_aggregates-found.ensures c.loop-term.invariant
