use Rattle.std.proofs.Common.{◌≡◌, drop}
use Rattle.std.specs.Option.{option_map}
use Rattle.std.specs.List.{flat_map}
use Rattle.cr_questions.specs.Asked.{bare_read_in, or_first_denied, told}
use Rattle.cr_questions.proofs.select.or_any_bare_denied.Given as goal

abbrev pub invariant-loop-source : goal.invariant-loop-source
invariant-loop-source g l =
    or_first_denied (g.G.Answering.answers l.guard) (option_map told l.found) (flat_map (bare_read_in l.query) (drop l.source-index l.joined))
    ≡ or_first_denied (g.G.Answering.answers l.guard) (option_map told l.initial.found) (flat_map (bare_read_in l.query) l.joined)
