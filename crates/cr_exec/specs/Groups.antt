-- What groups show, as queries speak of them.
use Rattle.std.specs.Prelude.{◌≡◌, List, [], map, filter, cond, Option, Some, option_map}
use Rattle.std.specs.Option.{option_and_then}
use Rattle.std.specs.Borrow.{Bor}
use Rattle.std.specs.List.Sorted.{IsSortedBy}
use Rattle.std.specs.Ordering.{is_lt}
use Rattle.cr_value.specs.declared.value.Value.{Value}
use Rattle.cr_term.specs.declared.expr.Expr.{Expr}
use Rattle.cr_term.specs.declared.query.ResultColumn.{ResultColumn}
use Rattle.cr_term.specs.declared.query.GroupTerm.{GroupTerm}
use Rattle.cr_term.specs.declared.query.OrderTerm.{OrderTerm}
use Rattle.cr_bags.specs.Bags.{SameBag, each, single}
use Rattle.cr_query.specs.Queries.{Shown}
use Rattle.cr_query.specs.Query.{Row, Group, Meaning, pair, has}
use Rattle.cr_meaning.specs.View.{Ordered, plain}
use Rattle.cr_exec.specs.declared.group.Keyed.{Keyed}
use Rattle.cr_exec.specs.Comparisons.{ValueOrder, by_orders}
use Rattle.cr_exec.specs.Scopes.{there}
use Rattle.cr_exec.specs.Shows.{ties_by}

-- the expressions of results and terms
abbrev pub result_expr : ResultColumn → Ordered
result_expr c = plain c.expr

abbrev pub order_expr : OrderTerm → Ordered
order_expr t = plain t.expr

abbrev pub group_expr : GroupTerm → Ordered
group_expr g = plain g.expr

-- what is shown by what gives an expression's value, and that if it has what HAVING asks
abbrev pub shows_by : (Ordered → Option Value) → List (Bor Expr) → List (Bor Expr) → Option Shown
shows_by f results keys = pair (each f (map there results)) (each f (map there keys))

abbrev pub judged_by : Meaning Ordered → (Ordered → Option Value) → Option Expr → List (Bor Expr) → List (Bor Expr) → Option (List Shown)
judged_by m f having results keys = option_and_then (λ b. cond b (option_map single (shows_by f results keys)) (Some [])) (has m (option_map plain having) f)

-- a combination with the values of the terms of GROUP BY
abbrev pub keyed_by : Meaning Ordered → List (Bor Expr) → Row → Option (Row × Row)
keyed_by m exprs c = option_map (λ k. (k, c)) (each (λ e. m.value e c) (map there exprs))

abbrev pub key_of : Keyed → Row
key_of k = k.key

abbrev pub pair_of : Keyed → Row × Row
pair_of k = (k.key, k.combination.now)

abbrev pub member_of : Keyed → Row
member_of k = k.combination.now

abbrev pub row_there : Bor Row → Row
row_there r = r.now

-- the combinations of a class, and its group
abbrev pub members_of : List ValueOrder → List (Row × Row) → Row → List Row
members_of Rs pairs k = map (λ p. p.1) (filter (λ p. ties_by Rs k p.0) pairs)

abbrev pub group_of : List ValueOrder → List (Row × Row) → Row → Group
group_of Rs pairs k = record { shown = k; members = members_of Rs pairs k }

-- they stand class by class
abbrev pub StandsByClass : List ValueOrder → List Keyed → Type 0
StandsByClass Rs = IsSortedBy (λ a b. is_lt (by_orders Rs a.key b.key))

-- keyed combinations, and the same class by class
pub record IsByClass (Rs : List ValueOrder) (keyed grouped : List Keyed) : Type 0 where
  pub in_order : StandsByClass Rs grouped
  pub keys : SameBag (map key_of grouped) (map key_of keyed)
  pub members : (k : Row) → members_of Rs (map pair_of grouped) k ≡ members_of Rs (map pair_of keyed) k
