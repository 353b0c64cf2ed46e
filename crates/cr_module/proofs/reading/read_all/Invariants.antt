use Rattle.std.proofs.Common.{◌≡◌, ◌++◌, length}
use Rattle.cr_module.proofs.Readings.{AllWide}
use Rattle.cr_module.proofs.reading.read_all.Given as goal

abbrev pub invariant-loop-alloc : goal.invariant-loop-alloc
invariant-loop-alloc g l =
    let left = g.M.Module.left l.listed in
    (l.rows.items ++ left l.cursor ≡ left l.initial.cursor) × AllWide l.width (left l.cursor)

abbrev pub decreases-loop-alloc : goal.decreases-loop-alloc
decreases-loop-alloc g l = length (g.M.Module.left l.listed l.cursor)
