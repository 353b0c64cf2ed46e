use Rattle.std.specs.Option.{option_map}
use Rattle.cr_questions.specs.Asked.{told}
use Rattle.cr_permitted.proofs.InOrder.{insert_from}
use Rattle.cr_permitted.proofs.insert.insert_denied.Goals as goal

pub returns : goal.returns
returns g c =
    insert_from (g.G.Answering.answers c.args.guard.now) c.args.insert.now (option_map told c.or_question_denied-found.result) (option_map told c.or_rows_denied.result)
    (rw c.question_of.ensures at c.or_question_denied-found.ensures) (rw c.as_slice.ensures at c.or_rows_denied.ensures)
