use Rattle.std.proofs.Common.{◌≡◌, take, map}
use Rattle.cr_exec.specs.Groups.{row_there}
use Rattle.cr_exec.proofs.index.references.Given as goal

abbrev pub invariant-loop-row : goal.invariant-loop-row
invariant-loop-row l = map row_there l.out.items ≡ take l.row-index l.rows
