-- What an aggregate gives of the rows that were seen so far. Source: this project's own.
use Rattle.std.specs.Prelude.{◌≡◌, ℕ, Bool, true, false, List, [], ◌++◌, map, Option, Ok}
use Rattle.std.specs.List.{AllByRecursion, AllZip}
use Rattle.cr_value.specs.declared.value.Value.{Value}
use Rattle.cr_term.specs.Parts.{aggregates}
use Rattle.cr_term.specs.declared.expr.Expr.{Expr}
use Rattle.cr_term.specs.declared.expr.Expr as e
use Rattle.cr_term.specs.declared.operator.Aggregate.{Aggregate}
use Rattle.cr_term.specs.declared.operator.Aggregate.TheVariants.{CountAll, Count, Max, Min, Sum, Host}
use Rattle.cr_scalar.specs.Host.{Host as Means}
use Rattle.cr_scalar.specs.Meaning.{Meant}
use Rattle.cr_scalar.specs.Functions.{all_of}
use Rattle.cr_scalar.specs.Aggregates.{aggregate_of}
use Rattle.cr_expr.specs.Setting.{over}
use Rattle.cr_expr.specs.Eval.{each, eval_of}
use Rattle.cr_expr.specs.Eval as eval
use Rattle.cr_query.specs.Query.{Row}
use Rattle.cr_meaning.specs.Meaning.{IsLimit, at_group}
use Rattle.cr_tally.specs.declared.show.Call.{Call}
use Rattle.cr_tally.specs.declared.tally.Tally.{Tally}

abbrev pub is_built_in : Aggregate → Bool
is_built_in CountAll = true
is_built_in Count = true
is_built_in (Max c) = true
is_built_in (Min c) = true
is_built_in Sum = true
is_built_in (Host name) = false

abbrev pub is_count : Aggregate → Bool
is_count CountAll = true
is_count Count = true
is_count (Max c) = false
is_count (Min c) = false
is_count Sum = false
is_count (Host name) = false

-- ---- arguments

-- no aggregate stands in it
abbrev pub IsAlone : Expr → Type 0
IsAlone e = aggregates e ≡ []

-- the values of an aggregate's arguments on a row of a group, whatever the group and whatever limit there is on values
abbrev pub AreArguments : Means → List Value → List Expr → Row → List Value → Type 0
AreArguments means params args row given =
    (most : Option ℕ) (members : List Row) → IsLimit most → all_of (each (map eval.meaning args) (over (at_group most means params (record { shown = []; members = members })) row)) ≡ Ok given

-- what an aggregate gives of rows of arguments
abbrev pub gives : Means → Aggregate → List (List Value) → Meant
gives means kind rows = aggregate_of means.order (λ name. means.aggregate name 1) kind rows

-- ---- what is told

-- the value is what the aggregate gives of the rows
pub record Tells (means : Means) (params : List Value) (rows : List Row) (t : Tally) : Type 0 where
  pub built_in : is_built_in t.call.kind.now ≡ true
  pub alone : AllByRecursion IsAlone t.call.args.now
  pub given : List (List Value)
  pub arguments : AllZip (AreArguments means params t.call.args.now) rows given
  pub value : gives means t.call.kind.now given ≡ Ok t.value

-- what tells of some rows becomes what tells the same of these and more
pub record Step (means : Means) (params : List Value) (more : List Row) (t u : Tally) : Type 0 where
  pub same : u.call ≡ t.call
  pub tells : (rows : List Row) → Tells means params rows t → Tells means params (rows ++ more) u

-- the value of an aggregate over the one group of the rows, whatever limit there is on values
abbrev pub IsValue : Means → List Value → List Row → Call → Value → Type 0
IsValue means params rows c v = (most : Option ℕ) → IsLimit most → eval_of (at_group most means params (record { shown = []; members = rows })) (e.Aggregate c.kind.now c.args.now) ≡ Ok v

-- and what it is worth: the value that it stands for
abbrev pub Worth : Tally → Value → Type 0
Worth t v = (means : Means) (params : List Value) (rows : List Row) → Tells means params rows t → IsValue means params rows t.call v

abbrev pub TellAll : Means → List Value → List Row → List Tally → Type 0
TellAll means params rows ts = AllByRecursion (Tells means params rows) ts
