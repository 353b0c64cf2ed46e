use Rattle.std.proofs.Common.{◌≡◌, drop}
use Rattle.std.specs.List.{flat_map}
use Rattle.cr_resolved.specs.Fits.{seen_with, shown_params}
use Rattle.cr_resolved.proofs.fits.with_shown.Given as goal

abbrev pub invariant-loop-column : goal.invariant-loop-column
invariant-loop-column l = seen_with l.seen (flat_map shown_params (drop l.column-index l.shown)) ≡ seen_with l.initial.seen (flat_map shown_params l.shown)
