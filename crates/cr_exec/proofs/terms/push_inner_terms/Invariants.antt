use Rattle.std.proofs.Common.{◌≡◌, ◌++◌, drop, map}
use Rattle.std.specs.Prelude.{filter}
use Rattle.std.specs.List.{flat_map}
use Rattle.cr_meaning.specs.View.{inner_terms}
use Rattle.cr_exec.specs.Scopes.{there}
use Rattle.cr_exec.specs.Tails.{of_kind}
use Rattle.cr_exec.proofs.terms.push_inner_terms.Given as goal

abbrev pub invariant-loop-join : goal.invariant-loop-join
invariant-loop-join l =
    map there l.out.items ++ filter (of_kind l.is_quiet_wanted) (flat_map inner_terms (drop l.join-index l.joined)) ≡ map there l.initial.out.items ++ filter (of_kind l.is_quiet_wanted) (flat_map inner_terms l.joined)
