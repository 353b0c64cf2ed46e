-- Where a row stands in the order of changes.
use Rattle.std.specs.Prelude.{ℕ, List}
use Rattle.std.specs.declared.cmp.Ordering.{Ordering}
use Rattle.std.specs.Ordering.{ordering_then}
use Rattle.cr_value.specs.Order.{bytes_cmp}
use Rattle.cr_lattice.specs.declared.change.Change.{Change}

-- a change's row against the row of a table and a key
unfoldable pub row_order : List ℕ → List ℕ → Change → Ordering
row_order table pk c = ordering_then (bytes_cmp c.table table) (bytes_cmp c.pk pk)
