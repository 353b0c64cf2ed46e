use Rattle.std.proofs.Common.{◌≡◌, ◌++◌, map, take}
use Rattle.cr_module.specs.Lawful.{value_at}
use Rattle.cr_module.proofs.samples.push_firsts.Given as goal

abbrev pub invariant-loop-row : goal.invariant-loop-row
invariant-loop-row l = l.out.items ≡ l.initial.out.items ++ map (value_at 0) (take l.row-index l.rows)
