use Rattle.std.proofs.Common.{◌≡◌, map, take}
use Rattle.cr_lattice.specs.Rows.{default_of}
use Rattle.cr_wanted.proofs.put.defaults.Given as goal

abbrev pub invariant-loop-column : goal.invariant-loop-column
invariant-loop-column l = l.row.items ≡ map default_of (take l.column-index l.columns)
