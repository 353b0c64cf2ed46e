use Rattle.std.proofs.Common.{◌≡◌, drop}
use Rattle.std.specs.List.{flat_map}
use Rattle.cr_resolved.specs.Casts.{or_outside, term_casts}
use Rattle.cr_resolved.proofs.casts.or_term_casts.Given as goal

abbrev pub invariant-loop-term : goal.invariant-loop-term
invariant-loop-term l = or_outside l.found (flat_map term_casts (drop l.term-index l.terms)) ≡ or_outside l.initial.found (flat_map term_casts l.terms)
