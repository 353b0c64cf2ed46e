use Rattle.cr_select.specs.Aggregates.{or_any}
use Rattle.cr_questions.proofs.Collected.{next_act}
use Rattle.cr_select.proofs.Found.{or_more}
use Rattle.cr_grouped.specs.Grouping.{output_aggregates}
use Rattle.cr_grouped.proofs.grouping.or_in_results.Goals as goal

pub loop-output-preserved : goal.loop-output-preserved
loop-output-preserved c =
    next_act or_any or_more output_aggregates c.args.outputs.now c.loop-output.output-index c.output-item.result
    c.loop-output.found c.or_aggregates-found.result _ c.loop-output-test.true c.output-item.is c.or_aggregates-found.ensures c.loop-output.invariant
