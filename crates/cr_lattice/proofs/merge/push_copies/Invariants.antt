use Rattle.std.proofs.Common.{◌≡◌, ◌++◌, take}
use Rattle.cr_lattice.proofs.merge.push_copies.Given as goal

abbrev pub invariant-loop-change : goal.invariant-loop-change
invariant-loop-change l = l.out.items ≡ l.fn.out.items ++ take l.change-index l.changes
