use Rattle.std.proofs.Common.{◌≡◌, [], ◌∷◌, drop}
use Rattle.std.specs.Option.{option_map}
use Rattle.std.specs.List.{flat_map}
use Rattle.cr_questions.specs.Questions.{asked}
use Rattle.cr_questions.specs.Asked.{or_first_denied, told}
use Rattle.cr_permitted.proofs.update.or_values_denied.Given as goal

abbrev pub invariant-loop-assignment : goal.invariant-loop-assignment
invariant-loop-assignment g l =
    or_first_denied (g.G.Answering.answers l.guard) (option_map told l.found) (flat_map (λ a. asked (l.relation ∷ []) a.value) (drop l.assignment-index l.assignments))
    ≡ or_first_denied (g.G.Answering.answers l.guard) (option_map told l.initial.found) (flat_map (λ a. asked (l.relation ∷ []) a.value) l.assignments)
