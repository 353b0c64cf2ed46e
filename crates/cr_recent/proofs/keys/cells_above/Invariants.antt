use Rattle.std.proofs.Common.{◌≡◌, take}
use Rattle.cr_recent.specs.Notes.{cells_above}
use Rattle.cr_recent.proofs.keys.cells_above.Given as goal

abbrev pub invariant-loop-key : goal.invariant-loop-key
invariant-loop-key g l = record {
  was_honest : g.C.Cells.is_honest l.cells → g.C.Cells.is_honest l.fn.cells;
  stays_clean : g.C.Cells.is_honest l.cells → g.C.Cells.is_clean l.fn.cells → g.C.Cells.is_clean l.cells;
  was_clean : g.C.Cells.is_clean l.cells → g.C.Cells.is_clean l.fn.cells;
  same : g.C.Cells.is_clean l.cells → g.C.Cells.holding l.cells ≡ g.C.Cells.holding l.fn.cells;
  found : g.C.Cells.is_clean l.cells → l.found.items ≡ cells_above (g.C.Cells.holding l.fn.cells).cells (take l.key-index l.keys) l.version;
}
