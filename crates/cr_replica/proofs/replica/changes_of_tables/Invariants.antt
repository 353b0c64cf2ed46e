use Rattle.std.proofs.Common.{◌≡◌, take}
use Rattle.cr_replica.specs.Snapshots.{changes_of_tables}
use Rattle.cr_replica.proofs.replica.changes_of_tables.Given as goal

abbrev pub invariant-loop-table : goal.invariant-loop-table
invariant-loop-table g l = record {
  was_honest : g.C.Cells.is_honest l.cells → g.C.Cells.is_honest l.fn.cells;
  stays_clean : g.C.Cells.is_honest l.cells → g.C.Cells.is_clean l.fn.cells → g.C.Cells.is_clean l.cells;
  was_clean : g.C.Cells.is_clean l.cells → g.C.Cells.is_clean l.fn.cells;
  same : g.C.Cells.is_clean l.cells → g.C.Cells.holding l.cells ≡ g.C.Cells.holding l.fn.cells;
  changes : g.C.Cells.is_clean l.cells → l.changes.items ≡ changes_of_tables (g.C.Cells.holding l.fn.cells) (take l.table-index l.tables);
}
