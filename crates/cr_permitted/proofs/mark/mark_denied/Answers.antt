use Rattle.std.specs.Option.{option_map}
use Rattle.cr_questions.specs.Asked.{told}
use Rattle.cr_permitted.proofs.InOrder.{mark_from}
use Rattle.cr_permitted.proofs.mark.mark_denied.Goals as goal

pub returns : goal.returns
returns g c =
    mark_from (g.G.Answering.answers c.args.guard.now) c.args.mark.now (option_map told c.or_question_denied-found.result) (option_map told c.or_question_denied.result)
    c.or_question_denied-found.ensures (rw c.call_of.ensures at c.or_question_denied.ensures)
