-- A query on the way to its groups: what its definition says of lists of expressions, of the lists that hold them. What is
-- folded over expressions is kept closed.
use Rattle.std.specs.Prelude.{◌||◌, Bool, not, nat_le, List, length, map}
use Rattle.std.specs.Option.{is_some}
use Rattle.cr_term.specs.declared.operator.Aggregate.{Aggregate as Kind}
use Rattle.cr_term.specs.declared.expr.Expr.{Expr}
use Rattle.cr_term.specs.declared.query.GroupTerm.{GroupTerm}
use Rattle.cr_term.specs.declared.query.OrderTerm.{OrderTerm}
use Rattle.cr_term.specs.declared.query.ResultColumn.{ResultColumn}
use Rattle.cr_term.specs.Parts.{aggregates}
use Rattle.cr_term.specs.Terms.{without_collate}
use Rattle.cr_questions.specs.Questions.{result_column}
use Rattle.cr_resolve.specs.declared.reading.Made.{Made}
use Rattle.cr_resolve.specs.Queries.{bare_in, order_column, over_groups, placed_if}
use Rattle.cr_select.specs.declared.outputs.Output.{Output}
use Rattle.cr_select.specs.declared.named.Named.{Named}
use Rattle.cr_select.specs.Named.{as_query}
use Rattle.cr_select.specs.Placed.{bares, exprs_of}

abbrev pub has_clause : Named → Bool
has_clause n = not (nat_le (length n.groups) 0) || is_some n.having

abbrev pub output_aggregates : Output → List Kind
output_aggregates o = aggregates o.expr

abbrev pub order_aggregates : OrderTerm → List Kind
order_aggregates t = aggregates t.expr

-- a term of GROUP BY without a COLLATE around it
abbrev pub bare_term : GroupTerm → GroupTerm
bare_term t = record { expr = without_collate t.expr; collation = t.collation }

abbrev pub without_collates : List GroupTerm → List GroupTerm
without_collates groups = map bare_term groups

abbrev pub output_bares : List GroupTerm → Output → List Bool
output_bares terms o = bares (exprs_of terms) o.expr

abbrev pub order_bares : List GroupTerm → OrderTerm → List Bool
order_bares terms t = bares (exprs_of terms) t.expr

-- a query whose names are read, and whether an aggregate stands where none may
abbrev pub as_made : Bool → Named → Made Named
as_made misplaced n = record { made = n; is_misplaced = misplaced }

-- an aggregate, or over groups a column, stands where it must not
unfoldable pub is_out_of_place : Bool → List GroupTerm → Made Named → Bool
is_out_of_place grouped terms n = n.is_misplaced || bare_in grouped (exprs_of terms) (over_groups (as_query n.made))

-- an expression, with the terms of groups put in where there are groups
unfoldable pub within : Bool → List GroupTerm → Expr → Expr
within grouped terms x = placed_if grouped (exprs_of terms) x

abbrev pub shown_in : Bool → List GroupTerm → Output → ResultColumn
shown_in grouped terms o = result_column (within grouped terms o.expr)

abbrev pub exprs_shown : List ResultColumn → List Expr
exprs_shown cs = map (λ c. c.expr) cs

unfoldable pub ordered_in : Bool → Bool → List GroupTerm → List ResultColumn → OrderTerm → OrderTerm
ordered_in distinct grouped terms results t = order_column distinct grouped (exprs_of terms) (exprs_shown results) t
