use Rattle.std.proofs.Common.{◌≡◌, drop}
use Rattle.std.specs.List.{flat_map}
use Rattle.cr_resolved.specs.Casts.{or_outside, row_casts}
use Rattle.cr_resolved.proofs.casts.in_insert.Given as goal

abbrev pub invariant-loop-row : goal.invariant-loop-row
invariant-loop-row l = or_outside l.found (flat_map row_casts (drop l.row-index l.row-items)) ≡ or_outside l.initial.found (flat_map row_casts l.row-items)
