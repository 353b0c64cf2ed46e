use Rattle.std.proofs.Common.{◌≡◌, map, take}
use Rattle.std.specs.List.{AllByRecursion}
use Rattle.cr_store.proofs.stored.read_all.Given as goal

abbrev pub invariant-loop-row : goal.invariant-loop-row
invariant-loop-row g l = (l.items.items ≡ map g.T.Stored.of (take l.row-index l.rows)) × AllByRecursion g.T.Stored.is_stored (take l.row-index l.rows)
