-- Rows compared value by value, each place by an order of its own. Source: this project's own.
use Rattle.std.specs.Prelude.{ℕ, false, List, [], ◌∷◌}
use Rattle.std.specs.declared.cmp.Ordering.{Ordering}
use Rattle.std.specs.Ordering.{then_cmp, on}
use Rattle.cr_value.specs.declared.value.Value.{Value}
use Rattle.cr_host.specs.Registry.{found_order}
use Rattle.cr_term.specs.declared.query.OrderTerm.{OrderTerm}
use Rattle.cr_term.specs.declared.query.ResultColumn.{ResultColumn}
use Rattle.cr_term.specs.declared.query.GroupTerm.{GroupTerm}
use Rattle.cr_scalar.specs.Compare.{Orders, value_cmp_by}
use Rattle.cr_query.specs.Query.{Row, head_or_null, rest_of, always_ties, directed}
use Rattle.cr_exec.specs.declared.compare.Sense.{Sense}

abbrev pub ValueOrder : Type 0
ValueOrder = Value → Value → Ordering

-- by the first value, then by the next
abbrev pub by_orders : List ValueOrder → Row → Row → Ordering
by_orders [] = always_ties
by_orders (R ∷ Rs) = then_cmp (on head_or_null R) (on rest_of (by_orders Rs))

-- a collation that is held, in its direction
abbrev pub held_order : (ℕ → List ℕ → List ℕ → Ordering) → Sense → ValueOrder
held_order at s = directed s.is_descending (value_cmp_by (found_order at s.collation))

-- that of a term of ORDER BY
abbrev pub term_order : Orders → OrderTerm → ValueOrder
term_order orders t = directed t.is_descending (value_cmp_by (orders t.collation))

-- and that by which DISTINCT compares a result, and GROUP BY a term
abbrev pub result_order : Orders → ResultColumn → ValueOrder
result_order orders c = directed false (value_cmp_by (orders c.collation))

abbrev pub group_order : Orders → GroupTerm → ValueOrder
group_order orders g = directed false (value_cmp_by (orders g.collation))
