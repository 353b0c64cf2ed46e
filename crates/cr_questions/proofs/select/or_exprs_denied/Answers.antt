use Rattle.std.specs.Option.{option_map}
use Rattle.cr_questions.specs.Questions.{asked, relations_of}
use Rattle.cr_questions.specs.Asked.{or_first_denied, told}
use Rattle.cr_questions.proofs.Denials.{denied_more}
use Rattle.cr_questions.proofs.Wholes.{query_acts}
use Rattle.cr_questions.proofs.select.or_exprs_denied.Goals as goal

pub returns : goal.returns
returns g c =
    query_acts (or_first_denied (g.G.Answering.answers c.args.guard.now)) (denied_more (g.G.Answering.answers c.args.guard.now)) (asked (relations_of c.args.query.now)) c.args.query.now (option_map told c.args.found)
    (option_map told c.or_results_denied-shown.result) (option_map told c.or_joined_denied-joined.result) (option_map told c.or_any_denied-filtered.result)
    (option_map told c.or_groups_denied-grouped.result) (option_map told c.or_having_denied-had.result) (option_map told c.or_order_denied.result)
    (rw (c.as_slice.ensures, c.as_slice-2.ensures) at c.or_results_denied-shown.ensures)
    (rw (c.as_slice.ensures, c.as_slice-3.ensures) at c.or_joined_denied-joined.ensures)
    (rw (c.as_slice.ensures, c.as_slice-4.ensures) at c.or_any_denied-filtered.ensures)
    (rw (c.as_slice.ensures, c.as_slice-5.ensures) at c.or_groups_denied-grouped.ensures)
    (rw c.as_slice.ensures at c.or_having_denied-had.ensures)
    (rw (c.as_slice.ensures, c.as_slice-6.ensures) at c.or_order_denied.ensures)
