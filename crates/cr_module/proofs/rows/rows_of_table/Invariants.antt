use Rattle.std.proofs.Common.{◌≡◌, ◌++◌, length}
use Rattle.cr_module.proofs.rows.rows_of_table.Given as goal

abbrev pub invariant-loop-alloc : goal.invariant-loop-alloc
invariant-loop-alloc g l =
    let s = g.S.Source in
    (l.rows.items ++ s.left l.source l.cursor ≡ s.rows_of l.fn.source l.table)
    × (s.rows_of l.source ≡ s.rows_of l.fn.source) × (s.has_failed l.source ≡ s.has_failed l.fn.source)

abbrev pub decreases-loop-alloc : goal.decreases-loop-alloc
decreases-loop-alloc g l = length (g.S.Source.left l.source l.cursor)
