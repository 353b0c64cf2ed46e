use Rattle.std.proofs.Common.{◌≡◌, map, drop}
use Rattle.cr_resolve.specs.Writes.{insert_row}
use Rattle.cr_resolve.specs.Reading.{each}
use Rattle.cr_written.proofs.Loops.{behind}
use Rattle.cr_written.proofs.insert.insert_rows.Given as goal

abbrev pub invariant-loop-row : goal.invariant-loop-row
invariant-loop-row g l =
    let f = insert_row (g.K.Naming.known l.known) l.table l.width in
    behind l.made (each (map f (drop l.row-index l.rows))) ≡ each (map f l.rows)
