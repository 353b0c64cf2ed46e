-- Which fault of evaluation is told of a statement. Source: this project's own.
use Rattle.std.specs.Prelude.{◌≡◌, false, List, Option, Some, None, Err}
use Rattle.cr_value.specs.declared.value.Value.{Value}
use Rattle.cr_lattice.specs.declared.table.TableDef.{TableDef}
use Rattle.cr_scalar.specs.declared.fault.EvalFault.{EvalFault}
use Rattle.cr_scalar.specs.declared.fault.EvalFault.TheVariants as fault
use Rattle.cr_scalar.specs.Meaning.{byte_limit}
use Rattle.cr_scalar.specs.Host.{Host as Functions}
use Rattle.cr_tree.specs.declared.statement.Statement.{Statement}
use Rattle.cr_meaning.specs.View.{Ordered}
use Rattle.cr_meaning.specs.Meaning.{strict}
use Rattle.cr_meaning.specs.Faults.{QueryFaults, InsertFaults, UpdateFaults, DeleteFaults}
use Rattle.cr_world.specs.declared.refusal.Refusal.{Refusal}
use Rattle.cr_world.specs.declared.refusal.Refusal.TheVariants as refusal
use Rattle.cr_world.specs.declared.refusal.EvalFault.TheVariants as eval
use Rattle.cr_world.specs.Resolved.{Target, Resolved, Select, Insert, Update, Delete}
use Rattle.cr_world.specs.Resolved as target
use Rattle.cr_world.specs.State.{State, ModuleState, rows_named, tables_named}
use Rattle.cr_world.specs.Statement.{Host, Answers, allowed_of, evaluated, touches}
use Rattle.cr_language.specs.Sql.{Engine, sql}

-- what a statement is refused for that has this fault
abbrev pub told : EvalFault → Option Refusal
told fault.Overflow = Some (refusal.Eval eval.Overflow)
told fault.NotANumber = Some (refusal.Eval eval.NotANumber)
told fault.NotUtf8 = Some (refusal.Eval eval.NotUtf8)
told (fault.Host text) = Some (refusal.Eval (eval.Host text))
told fault.TooBig = Some refusal.TooBig
told fault.Memory = None

abbrev pub OfTable : Target → (TableDef → Type 0) → Type 0
OfTable (target.Table def) P = P def
OfTable target.Changes P = ⊥
OfTable (target.Module name columns) P = ⊥

-- An expression of the statement has the fault where evaluation over what the session shows comes to it, each other fault being
-- passed over.
abbrev pub HasFault : Functions → List Value → EvalFault → State → Resolved Ordered → Type 0
HasFault functions params f st (Select names q) = QueryFaults functions params f q (tables_named st names)
HasFault functions params f st (Insert t w) = InsertFaults functions params f w
HasFault functions params f st (Update t w) = OfTable t (λ def. UpdateFaults functions params f w (rows_named st def.name))
HasFault functions params f st (Delete t w) = OfTable t (λ def. DeleteFaults functions params f w (rows_named st def.name))
HasFault functions params f st _ = ⊥

-- Where a statement that touches no module evaluates to nothing within the limit on values, the fault that it may be refused
-- for is one that an expression of it has.
abbrev pub ToldFaultsAreHad : Engine → Type 0
ToldFaultsAreHad e = (host : Host) (st : State) (params : List Value) (x : Statement) (f : EvalFault) (r : Refusal) (ms : List ModuleState) (y : Resolved Ordered)
    → told f ≡ Some r → Answers (sql e) host st params x (Err r) ms → allowed_of (sql e) host st params x ≡ Some y → touches st.modules y ≡ false
    → evaluated ((sql e).regarded (strict byte_limit) params) st y ≡ None → HasFault e.host params f st y
