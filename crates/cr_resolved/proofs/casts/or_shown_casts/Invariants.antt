use Rattle.std.proofs.Common.{◌≡◌, drop}
use Rattle.std.specs.List.{flat_map}
use Rattle.cr_resolved.specs.Casts.{or_outside, shown_casts}
use Rattle.cr_resolved.proofs.casts.or_shown_casts.Given as goal

abbrev pub invariant-loop-column : goal.invariant-loop-column
invariant-loop-column l = or_outside l.found (flat_map shown_casts (drop l.column-index l.shown)) ≡ or_outside l.initial.found (flat_map shown_casts l.shown)
