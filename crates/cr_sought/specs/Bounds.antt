-- Above which integer the terms of a WHERE want a column to be, and that a SELECT need not look at the rows that aren't. Source:
-- this project's own.
use Rattle.std.specs.Prelude.{◌≡◌, ℕ, ℤ, Bool, false, not, cond, filter, get_or, int_lt, List, [], ◌∷◌, Option, Some, None}
use Rattle.std.specs.Option.{option_and_then, option_or}
use Rattle.cr_value.specs.declared.value.Value.{Value}
use Rattle.cr_value.specs.declared.value.Value.TheVariants.{Null, Int}
use Rattle.cr_term.specs.declared.operator.Comparison.TheVariants.{Less, Greater}
use Rattle.cr_term.specs.declared.expr.Expr.{Expr, out-Expr}
use Rattle.cr_term.specs.declared.expr.Expr.TheOpen.{Compare}
use Rattle.cr_term.specs.declared.query.Joined.{Joined}
use Rattle.cr_term.specs.declared.query.Query.{Query}
use Rattle.cr_term.specs.Same.{Layer}
use Rattle.cr_scalar.specs.Host.{Host}
use Rattle.cr_bags.specs.Bags.{single}
use Rattle.cr_query.specs.Query.{Row, answer}
use Rattle.cr_meaning.specs.View as view
use Rattle.cr_meaning.specs.Meaning.{Regard, regarded}
use Rattle.cr_sought.specs.Sought.{constant, is_column, on_left, on_right}

abbrev pub bound_in : List Value → ℕ → Layer → Option Value
bound_in params at (Compare Greater m x y) = cond (is_column at x) (option_and_then (on_right m.adjusted) (constant params y)) None
bound_in params at (Compare Less m x y) = cond (is_column at y) (option_and_then (on_left m.adjusted) (constant params x)) None
bound_in params at _ = None

-- The value above which the column at this place has to be where the term is true: the term is `column > constant` or
-- `constant < column`, and leaves the column's value as it is.
abbrev pub bound : List Value → ℕ → Expr → Option Value
bound params at e = bound_in params at (out-Expr e)

abbrev pub integer : Value → Option ℤ
integer (Int n) = Some n
integer _ = None

-- the integer by the first term that tells one
abbrev pub lower_bound : List Value → List Expr → ℕ → Option ℤ
lower_bound params [] at = None
lower_bound params (e ∷ es) at = option_or (option_and_then integer (bound params at e)) (lower_bound params es at)

-- an integer that is no greater
abbrev pub is_up_to : ℤ → Value → Bool
is_up_to n (Int v) = not (int_lt n v)
is_up_to n _ = false

-- the column at this place has no such value
abbrev pub is_above : ℕ → ℤ → Row → Bool
is_above at n r = not (is_up_to n (get_or r at Null))

-- A SELECT of one table answers the same over the rows that are above the bound that its terms tell as over all, faults
-- included.
abbrev pub AnswersAbove : Type 0
AnswersAbove =
    (host : Host) (params : List Value) (regard : Regard) (q : Query) (j : Joined) (rows : List Row) (at : ℕ) (n : ℤ)
    → q.joined ≡ single j → j.is_left ≡ false → lower_bound params q.filter at ≡ Some n
    → answer (regarded regard host params) (view.query q) (single rows)
    ≡ answer (regarded regard host params) (view.query q) (single (filter (is_above at n) rows))
