use Rattle.std.proofs.Common.{◌≡◌, drop}
use Rattle.std.specs.List.{flat_map}
use Rattle.cr_term.specs.Parts.{columns}
use Rattle.cr_questions.specs.Asked.{or_is_read, relations}
use Rattle.cr_questions.proofs.mentions.or_results_read.Given as goal

abbrev pub invariant-loop-column : goal.invariant-loop-column
invariant-loop-column l =
    or_is_read (relations l.sources) l.name l.found (flat_map (λ r. columns r.expr) (drop l.column-index l.results)) ≡ or_is_read (relations l.sources) l.name l.initial.found (flat_map (λ r. columns r.expr) l.results)
