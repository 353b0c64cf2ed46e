use Rattle.std.proofs.Common.{◌≡◌, map}
use Rattle.std.specs.List.{AllByRecursion}
use Rattle.cr_store.specs.Rows.{cell_of}
use Rattle.cr_store.specs.Stored.{IsCellRow}
use Rattle.cr_store.proofs.cell_rows.read_all.Given as goal

abbrev pub invariant-loop-row : goal.invariant-loop-row
invariant-loop-row l = (l.cells.items ≡ map (cell_of l.format l.tables) l.yielded) × AllByRecursion (IsCellRow l.format l.tables) l.yielded
