use Rattle.std.proofs.Common.{[], ◌∷◌}
use Rattle.std.specs.Option.{option_map}
use Rattle.cr_questions.specs.Questions.{asked}
use Rattle.cr_questions.specs.Asked.{or_first_denied, told}
use Rattle.cr_questions.proofs.Denials.{denied_more}
use Rattle.cr_questions.proofs.Collected.{next_act}
use Rattle.cr_permitted.proofs.update.or_values_denied.Goals as goal

pub loop-assignment-preserved : goal.loop-assignment-preserved
loop-assignment-preserved g c =
    next_act (or_first_denied (g.G.Answering.answers c.args.guard.now)) (denied_more (g.G.Answering.answers c.args.guard.now)) (λ a. asked (c.args.relation.now ∷ []) a.value) c.args.assignments.now c.loop-assignment.assignment-index c.assignment-item.result
    (option_map told c.loop-assignment.found) (option_map told c.or_denied-found.result) _ c.loop-assignment-test.true c.assignment-item.is (c.or_denied-found.ensures) c.loop-assignment.invariant
