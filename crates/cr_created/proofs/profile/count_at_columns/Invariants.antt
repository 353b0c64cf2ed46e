use Rattle.std.proofs.Common.{◌≡◌, ◌-◌, ◌^◌, min, take}
use Rattle.cr_created.specs.Drafts.{primaries}
use Rattle.cr_created.proofs.profile.count_at_columns.Given as goal

abbrev pub invariant-loop-column : goal.invariant-loop-column
invariant-loop-column l = l.count ≡ min (primaries (take l.column-index l.columns)) (2 ^ 64 - 1)
