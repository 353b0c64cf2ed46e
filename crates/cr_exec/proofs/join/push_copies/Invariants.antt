use Rattle.std.proofs.Common.{◌≡◌, ◌++◌, take}
use Rattle.cr_exec.proofs.join.push_copies.Given as goal

abbrev pub invariant-loop-value : goal.invariant-loop-value
invariant-loop-value l = l.out.items ≡ l.initial.out.items ++ take l.value-index l.values
