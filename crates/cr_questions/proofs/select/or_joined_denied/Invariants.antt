use Rattle.std.proofs.Common.{◌≡◌, drop}
use Rattle.std.specs.Option.{option_map}
use Rattle.std.specs.List.{flat_map}
use Rattle.cr_questions.specs.Questions.{asked_all}
use Rattle.cr_questions.specs.Asked.{or_first_denied, relations, told}
use Rattle.cr_questions.proofs.select.or_joined_denied.Given as goal

abbrev pub invariant-loop-source : goal.invariant-loop-source
invariant-loop-source g l =
    or_first_denied (g.G.Answering.answers l.guard) (option_map told l.found) (flat_map (λ j. asked_all (relations l.sources) j.on) (drop l.source-index l.joined))
    ≡ or_first_denied (g.G.Answering.answers l.guard) (option_map told l.initial.found) (flat_map (λ j. asked_all (relations l.sources) j.on) l.joined)
