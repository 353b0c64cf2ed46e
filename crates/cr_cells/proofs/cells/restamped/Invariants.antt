use Rattle.std.proofs.Common.{◌≡◌, pos, ◌≤ℤ◌, drop, ◌++◌}
use Rattle.cr_cells.proofs.CommitLemmas.{restamped}
use Rattle.cr_cells.proofs.cells.restamped.Given as goal

abbrev pub invariant-loop-change : goal.invariant-loop-change
invariant-loop-change l = record {
  cells : l.out.items ++ restamped l.version l.cells l.seq (drop l.change-index l.next) ≡ restamped l.version l.cells (pos 0) l.next;
  from_0 : pos 0 ≤ℤ l.seq;
  past : l.seq ≤ℤ pos l.change-index;
}
