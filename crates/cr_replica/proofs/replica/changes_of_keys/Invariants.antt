use Rattle.std.proofs.Common.{◌≡◌, take}
use Rattle.cr_replica.specs.Snapshots.{changes_of_keys}
use Rattle.cr_replica.proofs.replica.changes_of_keys.Given as goal

abbrev pub invariant-loop-key : goal.invariant-loop-key
invariant-loop-key g l = record {
  was_honest : g.C.Cells.is_honest l.cells → g.C.Cells.is_honest l.fn.cells;
  stays_clean : g.C.Cells.is_honest l.cells → g.C.Cells.is_clean l.fn.cells → g.C.Cells.is_clean l.cells;
  was_clean : g.C.Cells.is_clean l.cells → g.C.Cells.is_clean l.fn.cells;
  same : g.C.Cells.is_clean l.cells → g.C.Cells.holding l.cells ≡ g.C.Cells.holding l.fn.cells;
  changes : g.C.Cells.is_clean l.cells → l.changes.items ≡ changes_of_keys (g.C.Cells.holding l.fn.cells) l.table (take l.key-index l.keys);
}
