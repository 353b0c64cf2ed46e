use Rattle.std.proofs.Common.{◌≡◌, ◌++◌, ◌-◌}
use Rattle.cr_module.specs.Reading.{tables_between}
use Rattle.cr_module.proofs.rows.tables_between.Given as goal

abbrev pub invariant-loop-table : goal.invariant-loop-table
invariant-loop-table g l =
    let s = g.S.Source in
    let rows = s.rows_of l.fn.source in
    (l.tables.items ++ tables_between rows l.table (l.end - l.table) ≡ tables_between rows l.first (l.end - l.first))
    × (s.rows_of l.source ≡ rows) × (s.has_failed l.source ≡ s.has_failed l.fn.source)
