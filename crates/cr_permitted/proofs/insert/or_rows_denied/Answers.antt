use Rattle.std.proofs.Common.{[], sym}
use Rattle.std.specs.Option.{option_map}
use Rattle.cr_questions.specs.Questions.{asked_all}
use Rattle.cr_questions.specs.Asked.{or_first_denied, told}
use Rattle.cr_questions.proofs.Denials.{denied_more}
use Rattle.cr_questions.proofs.Collected.{next_act}
use Rattle.cr_permitted.proofs.insert.or_rows_denied.Goals as goal

pub loop-row-preserved : goal.loop-row-preserved
loop-row-preserved g c =
    next_act (or_first_denied (g.G.Answering.answers c.args.guard.now)) (denied_more (g.G.Answering.answers c.args.guard.now)) (asked_all []) c.args.rows.now c.loop-row.row-index c.row-item.result
    (option_map told c.loop-row.found) (option_map told c.or_any_denied-found.result) _ c.loop-row-test.true c.row-item.is (rw (sym c.as_slice.ensures) c.or_any_denied-found.ensures) c.loop-row.invariant
