use Rattle.std.proofs.Common.{◌≡◌, ◌++◌, take}
use Rattle.std.specs.Prelude.{filter}
use Rattle.std.specs.Ordering.{is_lt}
use Rattle.cr_cells.specs.Marks.{mark_cmp}
use Rattle.cr_cells.proofs.marks.add_before.Given as goal

abbrev pub invariant-loop-other : goal.invariant-loop-other
invariant-loop-other l = l.out.items ≡ l.fn.out.items ++ filter (λ o. is_lt (mark_cmp o l.mark)) (take l.other-index l.marks)
