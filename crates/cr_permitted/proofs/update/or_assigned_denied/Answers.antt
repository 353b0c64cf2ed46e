use Rattle.std.proofs.Common.{[], ◌∷◌, sym}
use Rattle.std.specs.Option.{option_map}
use Rattle.cr_questions.specs.Questions.{update_of}
use Rattle.cr_questions.specs.Asked.{or_first_denied, told}
use Rattle.cr_questions.proofs.Denials.{denied_more}
use Rattle.cr_questions.proofs.Collected.{next_act}
use Rattle.cr_permitted.proofs.update.or_assigned_denied.Goals as goal

pub loop-assignment-preserved : goal.loop-assignment-preserved
loop-assignment-preserved g c =
    next_act (or_first_denied (g.G.Answering.answers c.args.guard.now)) (denied_more (g.G.Answering.answers c.args.guard.now)) (λ a. update_of c.args.relation.now a.column ∷ []) c.args.assignments.now c.loop-assignment.assignment-index c.assignment-item.result
    (option_map told c.loop-assignment.found) (option_map told c.or_question_denied-found.result) _ c.loop-assignment-test.true c.assignment-item.is (rw (sym c.question_of.ensures) c.or_question_denied-found.ensures) c.loop-assignment.invariant
