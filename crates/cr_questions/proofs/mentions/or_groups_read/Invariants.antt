use Rattle.std.proofs.Common.{◌≡◌, drop}
use Rattle.std.specs.List.{flat_map}
use Rattle.cr_term.specs.Parts.{columns}
use Rattle.cr_questions.specs.Asked.{or_is_read, relations}
use Rattle.cr_questions.proofs.mentions.or_groups_read.Given as goal

abbrev pub invariant-loop-term : goal.invariant-loop-term
invariant-loop-term l =
    or_is_read (relations l.sources) l.name l.found (flat_map (λ t. columns t.expr) (drop l.term-index l.groups)) ≡ or_is_read (relations l.sources) l.name l.initial.found (flat_map (λ t. columns t.expr) l.groups)
