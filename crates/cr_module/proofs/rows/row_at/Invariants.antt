use Rattle.std.proofs.Common.{◌≡◌, take}
use Rattle.cr_module.specs.Lawful.{first_row}
use Rattle.cr_module.proofs.rows.row_at.Given as goal

abbrev pub invariant-loop-at : goal.invariant-loop-at
invariant-loop-at g l =
    let s = g.S.Source in
    (l.values.items ≡ take l.at (first_row (s.left l.fn.source l.cursor))) × (s.left l.source l.cursor ≡ s.left l.fn.source l.cursor)
    × (s.rows_of l.source ≡ s.rows_of l.fn.source) × (s.has_failed l.source ≡ s.has_failed l.fn.source)
