use Rattle.std.proofs.Common.{◌≡◌, max, drop}
use Rattle.cr_tree.specs.Parameters as spec
use Rattle.cr_tree.proofs.parameters.of_shown.Given as goal

abbrev pub invariant-loop-each : goal.invariant-loop-each
invariant-loop-each l = max l.greatest (spec.of_all spec.of_shown (drop l.each-index l.shown)) ≡ spec.of_all spec.of_shown l.shown
