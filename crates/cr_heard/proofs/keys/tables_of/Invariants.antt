use Rattle.std.proofs.Common.{◌≡◌, map, take}
use Rattle.cr_heard.proofs.keys.tables_of.Given as goal

abbrev pub invariant-loop-change : goal.invariant-loop-change
invariant-loop-change l = l.names.items ≡ map (λ c. c.table) (take l.change-index l.changes)
