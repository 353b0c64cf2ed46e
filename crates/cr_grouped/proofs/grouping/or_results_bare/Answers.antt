use Rattle.cr_select.specs.Placed.{or_bare}
use Rattle.cr_questions.proofs.Collected.{next_act}
use Rattle.cr_select.proofs.Bare.{or_more}
use Rattle.cr_grouped.specs.Grouping.{output_bares}
use Rattle.cr_grouped.proofs.grouping.or_results_bare.Goals as goal

pub loop-output-preserved : goal.loop-output-preserved
loop-output-preserved c =
    next_act or_bare or_more (output_bares c.args.terms.now) c.args.outputs.now c.loop-output.output-index c.output-item.result
    c.loop-output.found c.or_bare-found.result _ c.loop-output-test.true c.output-item.is c.or_bare-found.ensures c.loop-output.invariant
