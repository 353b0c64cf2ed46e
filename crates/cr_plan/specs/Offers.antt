-- Which terms are offered to a module as constraints on its columns, and with which arguments. Source: "The Virtual
-- Table Mechanism Of SQLite", section 2.3; that a constraint compares under BINARY, and that its argument has taken on the
-- comparison's affinity beforehand, is this project's own.
use Rattle.std.specs.Prelude.{ℕ, ◌-◌, nat_lt, Bool, true, false, not, cond, List, map, slice_get, Option, Some, None}
use Rattle.std.specs.List.{filter_map}
use Rattle.std.specs.Option.{option_and_then, option_map, option_map_or, option_or}
use Rattle.cr_value.specs.declared.value.Value.{Value}
use Rattle.cr_value.specs.declared.value.Value.TheVariants.{Null}
use Rattle.cr_lattice.specs.Check.{same_bytes}
use Rattle.cr_term.specs.declared.operator.Comparison.{Comparison as Relation}
use Rattle.cr_term.specs.declared.operator.Comparison.TheVariants as r
use Rattle.cr_term.specs.declared.operator.Adjusted.{Adjusted}
use Rattle.cr_term.specs.declared.operator.Meeting.{Meeting}
use Rattle.cr_term.specs.declared.expr.Expr.{Expr, out-Expr}
use Rattle.cr_term.specs.declared.expr.Expr.TheOpen.{Expr-F, Literal, Compare, Collate}
use Rattle.cr_term.specs.declared.expr.Expr.TheFolds.{fold-Expr}
use Rattle.cr_term.specs.Operands.{binary}
use Rattle.cr_term.specs.Same.{Layer}
use Rattle.cr_scalar.specs.Numbers.{is_null}
use Rattle.cr_module.specs.declared.plan.Comparison.{Comparison}
use Rattle.cr_module.specs.declared.plan.Comparison.TheVariants.{Eq, Gt, Le, Lt, Ge}
use Rattle.cr_module.specs.declared.plan.Constraint.{Constraint}
use Rattle.cr_module.specs.declared.plan.Argument.{Argument}
use Rattle.cr_module.specs.declared.plan.Choice.{Choice}
use Rattle.cr_module.specs.declared.plan.Order.{Order}
use Rattle.cr_module.specs.Lawful.{IsRead}
use Rattle.cr_query.specs.Query.{Row}
use Rattle.cr_sought.specs.Sought.{no_arm, column_under, constant, on_left, on_right}
use Rattle.cr_plan.specs.declared.offer.Columns.{Columns}
use Rattle.cr_plan.specs.declared.offer.Offer.{Offer}

-- ---- comparisons

abbrev pub never_null_layer : Expr-F Bool (Unit {0}) → Bool
never_null_layer (Literal v) = not (is_null v)
never_null_layer (Collate x name) = x
never_null_layer _ = false

-- a literal other than NULL, possibly under COLLATE
abbrev pub never_null : Expr → Bool
never_null = fold-Expr Bool (Unit {0}) never_null_layer no_arm

-- How a column stands to a constant on its right where the comparison is true. IS with a literal that is not NULL is an
-- equality; no constraint says `<>`, or takes NULL, which a parameter may be.
abbrev pub op_of : Relation → Expr → Option Comparison
op_of r.Less y = Some Lt
op_of r.AtMost y = Some Le
op_of r.Greater y = Some Gt
op_of r.AtLeast y = Some Ge
op_of r.Equal y = Some Eq
op_of r.Unequal y = None
op_of r.Is y = cond (never_null y) (Some Eq) None
op_of r.IsNot y = None

-- the same with the sides turned round
abbrev pub turned : Comparison → Comparison
turned Eq = Eq
turned Gt = Lt
turned Le = Ge
turned Lt = Gt
turned Ge = Le

-- ---- offers

-- the place among the columns of a table of what stands at a place of a combination
abbrev pub place_in : Columns → ℕ → Option ℕ
place_in cs at = cond (nat_lt at cs.start) None (cond (nat_lt (at - cs.start) cs.count) (Some (at - cs.start)) None)

-- the place of the column of the table that an operand is, possibly under COLLATE
abbrev pub place_under : Columns → Expr → Option ℕ
place_under cs x = option_and_then (λ c. place_in cs c.at) (column_under x)

abbrev pub against : ℕ → Comparison → Value → Offer
against at op v = record { constraint = record { column = at; op = op; usable = true }; argument = v }

-- a column's place, how it stands, and to which value, where there are all three
abbrev pub offered : Option ℕ → Option Comparison → Option Value → Option Offer
offered at op argument = option_and_then (λ i. option_and_then (λ k. option_map (against i k) argument) op) at

-- a column on the left, which stays as it is, and a constant on the right
abbrev pub of_left : Columns → List Value → Relation → Adjusted → Expr → Expr → Option Offer
of_left cs params op a x y = offered (place_under cs x) (op_of op y) (option_and_then (on_right a) (constant params y))

-- a column on the right, which stays as it is, and a constant on the left
abbrev pub of_right : Columns → List Value → Relation → Adjusted → Expr → Expr → Option Offer
of_right cs params op a x y = offered (place_under cs y) (option_map turned (op_of op x)) (option_and_then (on_left a) (constant params x))

abbrev pub of_sides : Columns → List Value → Relation → Adjusted → Expr → Expr → Option Offer
of_sides cs params op a x y = option_or (of_left cs params op a x y) (of_right cs params op a x y)

-- under BINARY
abbrev pub of_comparison : Columns → List Value → Relation → Meeting → Expr → Expr → Option Offer
of_comparison cs params op m x y = cond (same_bytes m.collation binary) (of_sides cs params op m.adjusted x y) None

abbrev pub offer_in : Columns → List Value → Layer → Option Offer
offer_in cs params (Compare op m x y) = of_comparison cs params op m x y
offer_in cs params _ = None

-- A term as a constraint on a table with these columns, with its argument: a comparison under BINARY of a column of the table
-- with a literal or a parameter, which leaves the column's value as it is.
abbrev pub offer : Columns → List Value → Expr → Option Offer
offer cs params e = offer_in cs params (out-Expr e)

-- all that can be offered, in the order of the terms
abbrev pub offers : Columns → List Value → List Expr → List Offer
offers cs params = filter_map (offer cs params)

-- ---- what is passed

abbrev pub constraints : List Offer → List Constraint
constraints offers = map (λ o. o.constraint) offers

-- the argument of the constraint that was chosen; NULL where none has this place
abbrev pub argument_of : List Offer → Argument → Value
argument_of offers a = option_map_or (λ o. o.argument) (slice_get offers a.constraint) Null

-- the arguments that are passed, in the order in which their constraints were chosen
abbrev pub arguments : Choice → List Offer → List Value
arguments choice offers = map (argument_of offers) choice.args

-- what is read of a module with these rows, which chooses so, where these constraints and this order are offered
abbrev pub IsReadBy : (List Constraint → List Order → Choice) → List Row → List Offer → List Order → List Row → Type 0
IsReadBy best rows offers os got =
    let cs = constraints offers in IsRead rows cs os (best cs os) (arguments (best cs os) offers) got
