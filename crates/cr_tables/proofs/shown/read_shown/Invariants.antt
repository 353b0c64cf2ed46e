use Rattle.std.proofs.Common.{◌≡◌, length}
use Rattle.std.specs.List.Sorted.{IsSortedBy}
use Rattle.cr_lattice.specs.Rows.{has_lesser_key, rows}
use Rattle.cr_tables.proofs.shown.read_shown.Given as goal

abbrev pub invariant-loop-rest : goal.invariant-loop-rest
invariant-loop-rest l = IsSortedBy has_lesser_key l.rest × (rows l.rest l.def ≡ rows l.changes l.def)

abbrev pub decreases-loop-rest : goal.decreases-loop-rest
decreases-loop-rest l = length l.rest
