use Rattle.std.proofs.Common.{◌≡◌, map, take}
use Rattle.std.specs.List.{AllByRecursion}
use Rattle.sqlite_rules.specs.Edit.{id_in}
use Rattle.sqlite_trees.specs.Tree.{rowid}
use Rattle.cr_store.specs.Stored.{IsInteger}
use Rattle.cr_store.proofs.stored.read_ids.Given as goal

abbrev pub invariant-loop-row : goal.invariant-loop-row
invariant-loop-row l = (l.ids.items ≡ map (λ r. id_in (rowid r)) (take l.row-index l.rows)) × AllByRecursion (λ r. IsInteger (rowid r)) (take l.row-index l.rows)
