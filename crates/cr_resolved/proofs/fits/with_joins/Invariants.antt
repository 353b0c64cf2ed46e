use Rattle.std.proofs.Common.{◌≡◌, drop}
use Rattle.std.specs.List.{flat_map}
use Rattle.cr_resolved.specs.Fits.{seen_with, join_params}
use Rattle.cr_resolved.proofs.fits.with_joins.Given as goal

abbrev pub invariant-loop-join : goal.invariant-loop-join
invariant-loop-join l = seen_with l.seen (flat_map join_params (drop l.join-index l.joins)) ≡ seen_with l.initial.seen (flat_map join_params l.joins)
