-- What is shown, as queries speak of it.
use Rattle.std.specs.Prelude.{Bool, List}
use Rattle.std.specs.declared.cmp.Ordering.{Ordering}
use Rattle.std.specs.Ordering.{then_cmp, on, is_eq}
use Rattle.cr_query.specs.Queries.{Shown}
use Rattle.cr_query.specs.Query.{Row, row_cmp, shown_row, shown_keys}
use Rattle.cr_exec.specs.Comparisons.{ValueOrder, by_orders}
use Rattle.cr_exec.specs.declared.show.Shown.{Shown as Held}

abbrev pub shown_of : Held → Shown
shown_of s = record { row = s.row; keys = s.keys }

abbrev pub row_of : Held → Row
row_of s = s.row

-- by keys, each place by an order of its own, then by the whole row
abbrev pub keyed_cmp : List ValueOrder → Shown → Shown → Ordering
keyed_cmp Rs = then_cmp (on shown_keys (by_orders Rs)) (on shown_row row_cmp)

-- rows of one class
abbrev pub ties_by : List ValueOrder → Row → Row → Bool
ties_by Rs a b = is_eq (by_orders Rs a b)

abbrev pub shown_ties : List ValueOrder → Shown → Shown → Bool
shown_ties Rs a b = ties_by Rs a.row b.row
