use Rattle.std.specs.Option.{option_map}
use Rattle.cr_questions.specs.Asked.{told}
use Rattle.cr_questions.proofs.Selects.{select_from}
use Rattle.cr_questions.proofs.select.select_denied.Goals as goal

pub returns : goal.returns
returns g c =
    select_from (g.G.Answering.answers c.args.guard.now) c.args.query.now (option_map told c.or_question_denied-found.result) (option_map told c.or_exprs_denied-inside.result) (option_map told c.or_any_bare_denied.result)
    c.or_question_denied-found.ensures c.or_exprs_denied-inside.ensures (rw c.as_slice.ensures at c.or_any_bare_denied.ensures)
