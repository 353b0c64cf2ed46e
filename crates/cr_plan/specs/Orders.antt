-- Which order a module is offered. Source: "The Virtual Table Mechanism Of SQLite", section 2.3.2.
use Rattle.std.specs.Prelude.{ℕ, nat_lt, length, ◌||◌, cond, List, [], Option, None}
use Rattle.std.specs.Option.{option_map, unwrap_or}
use Rattle.cr_lattice.specs.Check.{same_bytes}
use Rattle.cr_term.specs.declared.expr.Expr.{Expr}
use Rattle.cr_term.specs.declared.query.OrderTerm.{OrderTerm}
use Rattle.cr_term.specs.declared.query.Query.{Query}
use Rattle.cr_term.specs.Operands.{binary}
use Rattle.cr_bags.specs.Bags.{each}
use Rattle.cr_module.specs.declared.plan.Order.{Order}
use Rattle.cr_sought.specs.Sought.{column_under}

-- the place of the column that an operand is, possibly under COLLATE
abbrev pub column_place : Expr → Option ℕ
column_place x = option_map (λ c. c.at) (column_under x)

-- a term of ORDER BY that is a column, possibly under COLLATE, ordered under BINARY
abbrev pub order_of : OrderTerm → Option Order
order_of t =
    cond (same_bytes t.collation binary) (option_map (λ at. record { column = at; descending = t.is_descending }) (column_place t.expr)) None

-- The order in which the only table of a query is to give its rows, where there are no groups and no DISTINCT: all terms of
-- ORDER BY, or none where one of them is no such column.
abbrev pub orders_for : Query → List Order
orders_for q = cond (nat_lt 1 (length q.joined) || (q.is_grouped || q.is_distinct)) [] (unwrap_or (each order_of q.order) [])
