use Rattle.std.proofs.Common.{◌≡◌, map, take}
use Rattle.std.specs.Prelude.{filter}
use Rattle.cr_cells.specs.Holding.{is_of_table}
use Rattle.cr_heard.proofs.keys.keys_of.Given as goal

abbrev pub invariant-loop-change : goal.invariant-loop-change
invariant-loop-change l = l.keys.items ≡ map (λ c. c.pk) (filter (is_of_table l.table) (take l.change-index l.changes))
