use Rattle.cr_term.specs.Parts.{columns}
use Rattle.cr_questions.specs.Asked.{or_is_read, relations}
use Rattle.cr_questions.proofs.Columns.{or_more}
use Rattle.cr_questions.proofs.Collected.{next_act}
use Rattle.cr_questions.proofs.mentions.or_results_read.Goals as goal

pub loop-column-preserved : goal.loop-column-preserved
loop-column-preserved c =
    next_act (or_is_read (relations c.args.sources) c.args.name.now) (or_more (relations c.args.sources) c.args.name.now) (λ r. columns r.expr) c.args.results.now c.loop-column.column-index c.column-item.result
    c.loop-column.found c.or_reads-found.result _ c.loop-column-test.true c.column-item.is c.or_reads-found.ensures c.loop-column.invariant
