use Rattle.std.proofs.Common.{◌≡◌, [], ◌∷◌, drop}
use Rattle.std.specs.Option.{option_map}
use Rattle.std.specs.List.{flat_map}
use Rattle.cr_questions.specs.Questions.{update_of}
use Rattle.cr_questions.specs.Asked.{or_first_denied, told}
use Rattle.cr_permitted.proofs.update.or_assigned_denied.Given as goal

abbrev pub invariant-loop-assignment : goal.invariant-loop-assignment
invariant-loop-assignment g l =
    or_first_denied (g.G.Answering.answers l.guard) (option_map told l.found) (flat_map (λ a. update_of l.relation a.column ∷ []) (drop l.assignment-index l.assignments))
    ≡ or_first_denied (g.G.Answering.answers l.guard) (option_map told l.initial.found) (flat_map (λ a. update_of l.relation a.column ∷ []) l.assignments)
