use Rattle.std.proofs.Common.{◌≡◌, ◌+◌, ◌-◌, ◌≤◌, length, drop}
use Rattle.cr_tables.specs.Shown.{first_key, first_group, front}
use Rattle.cr_tables.proofs.shown.group_length.Given as goal

abbrev pub invariant-loop-count : goal.invariant-loop-count
invariant-loop-count l = (l.count + length (front (first_key l.changes) (drop l.count l.changes)) ≡ length (first_group l.changes)) × (l.count ≤ length l.changes)

abbrev pub decreases-loop-count : goal.decreases-loop-count
decreases-loop-count l = length l.changes - l.count
