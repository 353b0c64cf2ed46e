use Rattle.std.proofs.Common.{◌≡◌, take}
use Rattle.cr_exec.proofs.index.copies.Given as goal

abbrev pub invariant-loop-row : goal.invariant-loop-row
invariant-loop-row l = l.out.items ≡ take l.row-index l.rows
