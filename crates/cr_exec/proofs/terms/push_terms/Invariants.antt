use Rattle.std.proofs.Common.{◌≡◌, ◌++◌, drop, map}
use Rattle.std.specs.Prelude.{filter}
use Rattle.cr_meaning.specs.View.{plain}
use Rattle.cr_exec.specs.Scopes.{there}
use Rattle.cr_exec.specs.Tails.{of_kind}
use Rattle.cr_exec.proofs.terms.push_terms.Given as goal

abbrev pub invariant-loop-term : goal.invariant-loop-term
invariant-loop-term l =
    map there l.out.items ++ filter (of_kind l.is_quiet_wanted) (map plain (drop l.term-index l.terms)) ≡ map there l.initial.out.items ++ filter (of_kind l.is_quiet_wanted) (map plain l.terms)
