use Rattle.std.proofs.Common.{◌≡◌, [], drop}
use Rattle.std.specs.Option.{option_map}
use Rattle.std.specs.List.{flat_map}
use Rattle.cr_questions.specs.Questions.{asked_all}
use Rattle.cr_questions.specs.Asked.{or_first_denied, told}
use Rattle.cr_permitted.proofs.insert.or_rows_denied.Given as goal

abbrev pub invariant-loop-row : goal.invariant-loop-row
invariant-loop-row g l =
    or_first_denied (g.G.Answering.answers l.guard) (option_map told l.found) (flat_map (asked_all []) (drop l.row-index l.rows))
    ≡ or_first_denied (g.G.Answering.answers l.guard) (option_map told l.initial.found) (flat_map (asked_all []) l.rows)
