use Rattle.cr_select.specs.Placed.{or_bare}
use Rattle.cr_questions.proofs.Collected.{next_act}
use Rattle.cr_select.proofs.Bare.{or_more}
use Rattle.cr_grouped.specs.Grouping.{order_bares}
use Rattle.cr_grouped.proofs.grouping.or_order_bare.Goals as goal

pub loop-term-preserved : goal.loop-term-preserved
loop-term-preserved c =
    next_act or_bare or_more (order_bares c.args.terms.now) c.args.order.now c.loop-term.term-index c.term-item.result
    c.loop-term.found c.or_bare-found.result _ c.loop-term-test.true c.term-item.is c.or_bare-found.ensures c.loop-term.invariant
