use Rattle.std.proofs.Common.{◌≡◌, max, drop}
use Rattle.cr_tree.specs.Parameters as spec
use Rattle.cr_tree.proofs.parameters.of_terms.Given as goal

abbrev pub invariant-loop-term : goal.invariant-loop-term
invariant-loop-term l = max l.greatest (spec.of_all spec.of_term (drop l.term-index l.terms)) ≡ spec.of_all spec.of_term l.terms
