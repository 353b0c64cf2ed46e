-- Where an expression has a fault, within the limit on values. Source: this project's own.
use Rattle.std.specs.Prelude.{◌≡◌, ◌⊎◌, Bool, true, false, cond, List, Some, None, Ok, Err}
use Rattle.std.specs.Str.{bytes_eq}
use Rattle.cr_value.specs.declared.value.Value.{Value}
use Rattle.cr_value.specs.declared.value.Value.TheVariants.{Null}
use Rattle.cr_scalar.specs.declared.fault.EvalFault.{EvalFault}
use Rattle.cr_scalar.specs.declared.fault.EvalFault.TheVariants.{Overflow, NotANumber, NotUtf8, Host as Said, TooBig, Memory}
use Rattle.cr_scalar.specs.Meaning.{Outcome, byte_limit}
use Rattle.cr_scalar.specs.Numbers.{truth}
use Rattle.cr_scalar.specs.Host.{Host}
use Rattle.cr_expr.specs.Eval.{eval_of}
use Rattle.cr_query.specs.Query.{Row, Group}
use Rattle.cr_query.specs.Queries.{Query, Insert, Update, Delete}
use Rattle.cr_query.specs.Faults.{QueryHas, InsertHas, UpdateHas, DeleteHas}
use Rattle.cr_meaning.specs.View.{Ordered}
use Rattle.cr_meaning.specs.Meaning.{Regard, at_row, at_group, limit_of, regarded}

abbrev pub same_fault : EvalFault → EvalFault → Bool
same_fault Overflow Overflow = true
same_fault NotANumber NotANumber = true
same_fault NotUtf8 NotUtf8 = true
same_fault (Said s) (Said t) = bytes_eq s t
same_fault TooBig TooBig = true
same_fault Memory Memory = true
same_fault _ _ = false

-- this fault is one; for each other NULL passes, or that something is not true
abbrev pub alone : EvalFault → Regard
alone f = record { most = byte_limit; value = λ h. cond (same_fault f h) None (Some Null); truth = λ h. cond (same_fault f h) None (Some false) }

-- ---- who has it

-- an evaluation has it, or the truth of what that gives
abbrev pub HasInTruth : EvalFault → Outcome Value → Type 0
HasInTruth f o = (o ≡ Err f) ⊎ ((v : Value) × ((o ≡ Ok v) × (truth v ≡ Err f)))

module _ (host : Host) (params : List Value) (f : EvalFault) where
  abbrev pub OnRow : Ordered → Row → Type 0
  OnRow e row = eval_of (at_row (limit_of byte_limit e.expr) host params row) e.expr ≡ Err f

  abbrev pub Over : Ordered → Group → Type 0
  Over e k = eval_of (at_group byte_limit host params k) e.expr ≡ Err f

  abbrev pub TrueOnRow : Ordered → Row → Type 0
  TrueOnRow e row = HasInTruth f (eval_of (at_row (limit_of byte_limit e.expr) host params row) e.expr)

  abbrev pub TrueOver : Ordered → Group → Type 0
  TrueOver e k = HasInTruth f (eval_of (at_group byte_limit host params k) e.expr)

  -- Of a query an expression has it on a combination, or over a group, to which evaluation comes; each other fault is passed over.
  abbrev pub QueryFaults : Query Ordered → List (List Row) → Type 0
  QueryFaults = QueryHas (regarded (alone f) host params) OnRow Over TrueOnRow TrueOver

  -- one of a write has it on a row of its table
  abbrev pub InsertFaults : Insert Ordered → Type 0
  InsertFaults = InsertHas (regarded (alone f) host params) OnRow Over TrueOnRow TrueOver

  abbrev pub UpdateFaults : Update Ordered → List Row → Type 0
  UpdateFaults = UpdateHas (regarded (alone f) host params) OnRow Over TrueOnRow TrueOver

  abbrev pub DeleteFaults : Delete Ordered → List Row → Type 0
  DeleteFaults = DeleteHas (regarded (alone f) host params) OnRow Over TrueOnRow TrueOver
