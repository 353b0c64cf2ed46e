use Rattle.std.proofs.Common.{◌≡◌, drop}
use Rattle.std.specs.List.{flat_map}
use Rattle.cr_term.specs.Parts.{columns}
use Rattle.cr_questions.specs.Asked.{or_is_read, relations}
use Rattle.cr_questions.proofs.mentions.or_joined_read.Given as goal

abbrev pub invariant-loop-source : goal.invariant-loop-source
invariant-loop-source l =
    or_is_read (relations l.sources) l.name l.found (flat_map (λ j. flat_map columns j.on) (drop l.source-index l.joined)) ≡ or_is_read (relations l.sources) l.name l.initial.found (flat_map (λ j. flat_map columns j.on) l.joined)
