-- What a reading of a table has before it. Source: this project's own; which rows a table shows is said elsewhere.
use Rattle.std.specs.Prelude.{ℕ, zero, suc, List, [], map, drop, Option, Some, None, slice_get}
use Rattle.cr_lattice.specs.declared.change.Change.{Change}
use Rattle.cr_lattice.specs.declared.table.TableDef.{TableDef}
use Rattle.cr_lattice.specs.Rows.{rows}
use Rattle.cr_query.specs.Query.{Row}
use Rattle.cr_term.specs.declared.query.Joined.{Joined}
use Rattle.cr_replica.specs.declared.snapshot.Snapshot.{Snapshot}
use Rattle.cr_snapshot.specs.Seen.{name_of, rows_seen}
use Rattle.cr_world.specs.State.{row_of}
use Rattle.cr_tables.specs.declared.standing.Standing.{Standing}
use Rattle.cr_tables.specs.declared.standing.Standing.TheVariants.{Shown, Made, Changes, Listed}

abbrev pub rows_before : Standing → List Row
rows_before (Shown rows) = rows
rows_before (Made rows at) = drop at rows.items
rows_before (Changes cells) = map row_of cells.now
rows_before (Listed rows) = rows.now

abbrev pub rows_or_none : Snapshot → Option Joined → List Row
rows_or_none s None = []
rows_or_none s (Some j) = rows_seen s (name_of j)

-- the rows of the table at a place of FROM
abbrev pub rows_at : Snapshot → List Joined → ℕ → List Row
rows_at s joined n = rows_or_none s (slice_get joined n)

-- what kept changes show of a table stands under number 0, and nothing under any other
abbrev pub rows_kept : List Change → TableDef → ℕ → List Row
rows_kept kept def zero = rows kept def
rows_kept kept def (suc n) = []
