use Rattle.std.proofs.Common.{◌≡◌, drop}
use Rattle.std.specs.List.{flat_map}
use Rattle.cr_resolved.specs.Casts.{or_outside, join_casts}
use Rattle.cr_resolved.proofs.casts.or_join_casts.Given as goal

abbrev pub invariant-loop-join : goal.invariant-loop-join
invariant-loop-join l = or_outside l.found (flat_map join_casts (drop l.join-index l.joins)) ≡ or_outside l.initial.found (flat_map join_casts l.joins)
