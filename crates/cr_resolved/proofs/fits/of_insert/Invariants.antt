use Rattle.std.proofs.Common.{◌≡◌, drop}
use Rattle.std.specs.List.{flat_map}
use Rattle.cr_resolved.specs.Fits.{seen_with, row_params}
use Rattle.cr_resolved.proofs.fits.of_insert.Given as goal

abbrev pub invariant-loop-row : goal.invariant-loop-row
invariant-loop-row l = seen_with l.seen (flat_map row_params (drop l.row-index l.row-items)) ≡ seen_with l.initial.seen (flat_map row_params l.row-items)
