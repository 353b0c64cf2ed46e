use Rattle.std.proofs.Common.{◌≡◌, drop}
use Rattle.std.specs.Option.{option_map}
use Rattle.std.specs.List.{flat_map}
use Rattle.cr_questions.specs.Questions.{asked}
use Rattle.cr_questions.specs.Asked.{or_first_denied, relations, told}
use Rattle.cr_questions.proofs.select.or_results_denied.Given as goal

abbrev pub invariant-loop-column : goal.invariant-loop-column
invariant-loop-column g l =
    or_first_denied (g.G.Answering.answers l.guard) (option_map told l.found) (flat_map (λ r. asked (relations l.sources) r.expr) (drop l.column-index l.results))
    ≡ or_first_denied (g.G.Answering.answers l.guard) (option_map told l.initial.found) (flat_map (λ r. asked (relations l.sources) r.expr) l.results)
