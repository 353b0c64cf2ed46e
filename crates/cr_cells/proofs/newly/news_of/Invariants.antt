use Rattle.std.proofs.Common.{◌≡◌, take}
use Rattle.std.specs.Prelude.{filter}
use Rattle.cr_cells.specs.Commit.{is_new}
use Rattle.std.specs.Option.{ForSome}
use Rattle.cr_cells.specs.Holding.{cells_of, kept_of}
use Rattle.cr_cells.proofs.newly.news_of.Given as goal

abbrev pub invariant-loop-change : goal.invariant-loop-change
invariant-loop-change g l = record {
  was_honest : g.C.Cells.is_honest l.cells → g.C.Cells.is_honest l.fn.cells;
  stays_clean : g.C.Cells.is_honest l.cells → g.C.Cells.is_clean l.fn.cells → g.C.Cells.is_clean l.cells;
  was_clean : g.C.Cells.is_clean l.cells → g.C.Cells.is_clean l.fn.cells;
  same : g.C.Cells.is_clean l.cells → g.C.Cells.holding l.cells ≡ g.C.Cells.holding l.fn.cells;
  read : g.C.Cells.is_clean l.cells → ForSome l.read (λ r. l.row.items ≡ cells_of (g.C.Cells.holding l.fn.cells).cells r.now.table r.now.pk);
  news : g.C.Cells.is_clean l.cells → l.news.items ≡ filter (is_new (kept_of (g.C.Cells.holding l.fn.cells))) (take l.change-index l.wanted);
}
