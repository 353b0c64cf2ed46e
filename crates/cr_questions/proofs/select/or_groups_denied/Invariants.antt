use Rattle.std.proofs.Common.{◌≡◌, drop}
use Rattle.std.specs.Option.{option_map}
use Rattle.std.specs.List.{flat_map}
use Rattle.cr_questions.specs.Questions.{asked}
use Rattle.cr_questions.specs.Asked.{or_first_denied, relations, told}
use Rattle.cr_questions.proofs.select.or_groups_denied.Given as goal

abbrev pub invariant-loop-term : goal.invariant-loop-term
invariant-loop-term g l =
    or_first_denied (g.G.Answering.answers l.guard) (option_map told l.found) (flat_map (λ t. asked (relations l.sources) t.expr) (drop l.term-index l.groups))
    ≡ or_first_denied (g.G.Answering.answers l.guard) (option_map told l.initial.found) (flat_map (λ t. asked (relations l.sources) t.expr) l.groups)
