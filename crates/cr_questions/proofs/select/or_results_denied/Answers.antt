use Rattle.std.specs.Option.{option_map}
use Rattle.cr_questions.specs.Questions.{asked}
use Rattle.cr_questions.specs.Asked.{or_first_denied, relations, told}
use Rattle.cr_questions.proofs.Denials.{denied_more}
use Rattle.cr_questions.proofs.Collected.{next_act}
use Rattle.cr_questions.proofs.select.or_results_denied.Goals as goal

pub loop-column-preserved : goal.loop-column-preserved
loop-column-preserved g c =
    next_act (or_first_denied (g.G.Answering.answers c.args.guard.now)) (denied_more (g.G.Answering.answers c.args.guard.now)) (λ r. asked (relations c.args.sources) r.expr) c.args.results.now c.loop-column.column-index c.column-item.result
    (option_map told c.loop-column.found) (option_map told c.or_denied-found.result) _ c.loop-column-test.true c.column-item.is c.or_denied-found.ensures c.loop-column.invariant
