-- Queries that have one group of the rows on which their terms are true. Source: this project's own.
use Rattle.std.specs.Prelude.{◌≡◌, ℕ, true, List, [], Option, map}
use Rattle.std.specs.List.{AllByRecursion, AllZip}
use Rattle.cr_value.specs.declared.value.Value.{Value}
use Rattle.cr_term.specs.declared.expr.Expr.{Expr}
use Rattle.cr_term.specs.declared.query.Query.{Query}
use Rattle.cr_scalar.specs.Host.{Host as Means}
use Rattle.cr_query.specs.Queries.{Shown}
use Rattle.cr_query.specs.Query.{Row, finished, holds}
use Rattle.cr_meaning.specs.View as view
use Rattle.cr_meaning.specs.Meaning.{meaning}
use Rattle.cr_exec.specs.Answers.{IsMeant}
use Rattle.cr_tally.specs.declared.over.OverGroup.{OverGroup}
use Rattle.cr_tally.specs.declared.show.Call.{Call}
use Rattle.cr_tally.specs.declared.tally.Tally.{Tally}
use Rattle.cr_tally.specs.Over.{group_shows}
use Rattle.cr_tally.specs.Tallies.{TellAll, Worth}

pub record HasOneGroup (q : Query) : Type 0 where
  pub grouped : q.is_grouped ≡ true
  pub no_groups : q.groups ≡ []

-- what the ones tell of no rows, the others tell of these
pub record TellsFrom (means : Means) (params : List Value) (ts : List Tally) (rows : List Row) (us : List Tally) : Type 0 where
  pub same : map (λ u. u.call) us ≡ map (λ t. t.call) ts
  pub tells : TellAll means params [] ts → TellAll means params rows us

-- the terms are all true on the row, without a limit on values and with it
abbrev pub AreTrue : Means → List Value → List Expr → Row → Type 0
AreTrue means params terms row = IsMeant means params (λ m. holds m (map view.plain terms) row) true

-- the terms are all true on each of the rows, of which these tell
pub record TellsOf (means : Means) (params : List Value) (terms : List Expr) (ts : List Tally) (rows : List Row) (us : List Tally) : Type 0 where
  pub are_true : AllByRecursion (AreTrue means params terms) rows
  pub tells : TellsFrom means params ts rows us

-- the rows of an answer whose one group shows what is evaluated over it where what the aggregates are worth is shown
pub record Finishes (means : Means) (params : List Value) (q : Query) (o : OverGroup) (ts : List Tally) (answer : List Row) : Type 0 where
  pub values : List Value
  pub worth : AllZip Worth ts values
  pub group : List Shown
  pub shows : IsMeant means params (λ m. group_shows m o (record { shown = values; members = [] })) group
  pub are : (most : Option ℕ) → answer ≡ finished (meaning most means params) (view.query q) group

-- the rows of an answer over these rows, on which the terms are all true, where what these aggregates give of them is shown
pub record AnswersOver (means : Means) (params : List Value) (q : Query) (o : OverGroup) (calls : List Call) (rows answer : List Row) : Type 0 where
  pub are_true : AllByRecursion (AreTrue means params q.filter) rows
  pub told : List Tally
  pub of : map (λ t. t.call) told ≡ calls
  pub tells : TellAll means params rows told
  pub finishes : Finishes means params q o told answer
