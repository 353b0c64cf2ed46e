use Rattle.std.specs.Option.{option_map}
use Rattle.cr_questions.specs.Questions.{asked}
use Rattle.cr_questions.specs.Asked.{or_first_denied, relations, told}
use Rattle.cr_questions.proofs.Denials.{denied_more}
use Rattle.cr_questions.proofs.Collected.{next_act}
use Rattle.cr_questions.proofs.select.or_order_denied.Goals as goal

pub loop-term-preserved : goal.loop-term-preserved
loop-term-preserved g c =
    next_act (or_first_denied (g.G.Answering.answers c.args.guard.now)) (denied_more (g.G.Answering.answers c.args.guard.now)) (λ t. asked (relations c.args.sources) t.expr) c.args.order.now c.loop-term.term-index c.term-item.result
    (option_map told c.loop-term.found) (option_map told c.or_denied-found.result) _ c.loop-term-test.true c.term-item.is c.or_denied-found.ensures c.loop-term.invariant
