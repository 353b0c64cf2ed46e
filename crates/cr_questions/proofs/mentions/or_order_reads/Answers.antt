use Rattle.cr_term.specs.Parts.{columns}
use Rattle.cr_questions.specs.Asked.{or_is_read, relations}
use Rattle.cr_questions.proofs.Columns.{or_more}
use Rattle.cr_questions.proofs.Collected.{next_act}
use Rattle.cr_questions.proofs.mentions.or_order_reads.Goals as goal

pub loop-term-preserved : goal.loop-term-preserved
loop-term-preserved c =
    next_act (or_is_read (relations c.args.sources) c.args.name.now) (or_more (relations c.args.sources) c.args.name.now) (λ t. columns t.expr) c.args.order.now c.loop-term.term-index c.term-item.result
    c.loop-term.found c.or_reads-found.result _ c.loop-term-test.true c.term-item.is c.or_reads-found.ensures c.loop-term.invariant
