-- A SELECT answers the same over what a lawful module gives by the terms that it is told as over all that the module has.
-- Source: this project's own.
use Rattle.std.specs.Prelude.{◌≡◌, ℕ, List, ◌∷◌, ◌++◌, length, Option}
use Rattle.std.specs.List.{AllByRecursion}
use Rattle.std.specs.Cmp.{IsTotalOrder}
use Rattle.cr_value.specs.declared.value.Value.{Value}
use Rattle.cr_term.specs.declared.query.Joined.{Joined}
use Rattle.cr_term.specs.declared.query.Query.{Query}
use Rattle.cr_scalar.specs.Host.{Host}
use Rattle.cr_query.specs.Query.{Row, answer}
use Rattle.cr_meaning.specs.View as view
use Rattle.cr_meaning.specs.Meaning.{meaning}
use Rattle.cr_exec.specs.Equalities.{OrdersBytes}
use Rattle.cr_module.specs.declared.plan.Choice.{Choice}
use Rattle.cr_module.specs.declared.plan.Order.{Order}
use Rattle.cr_module.specs.Lawful.{IsRead}
use Rattle.cr_sought.specs.Joins.{AreWide, width, widths}
use Rattle.cr_plan.specs.declared.offer.Offer.{Offer}
use Rattle.cr_plan.specs.Offers.{constraints, arguments}
use Rattle.cr_plan.specs.Told.{offers_placed, placed_at}

-- what a table of a query is offered that stands behind these
abbrev pub offers_behind : List Value → Query → List Joined → Joined → List Offer
offers_behind params q before j = offers_placed params q (placed_at (widths before) j)

-- rows with a value for each column of a table
abbrev pub AreOf : Joined → List Row → Type 0
AreOf j rows = AllByRecursion (λ r. length r ≡ width j) rows

-- Whatever a module chose of the constraints that the terms of a SELECT are which a table of it is told, whatever order it was
-- offered, and whatever stands beside it: the answer over what it gave is that over all its rows, and there is none just where there is
-- none over these.
abbrev pub AnswersByPlan : Type 0
AnswersByPlan =
    (host : Host) (params : List Value) (most : Option ℕ) (q : Query) (before : List Joined) (j : Joined) (after : List Joined)
    (front : List (List Row)) (rows got : List Row) (back : List (List Row)) (os : List Order) (choice : Choice)
    → OrdersBytes host → ((name : List ℕ) → IsTotalOrder (host.order name))
    → q.joined ≡ before ++ (j ∷ after) → AreWide before front → AreOf j rows → AreOf j got
    → IsRead rows (constraints (offers_behind params q before j)) os choice (arguments choice (offers_behind params q before j)) got
    → answer (meaning most host params) (view.query q) (front ++ (rows ∷ back))
    ≡ answer (meaning most host params) (view.query q) (front ++ (got ∷ back))
