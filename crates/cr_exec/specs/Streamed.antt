-- What a call answers that reads the rows of a source, which may fail. Source: this project's own.
use Rattle.std.specs.Prelude.{Bool, true, false, List, Result, Ok, Err}
use Rattle.cr_value.specs.declared.value.Value.{Value}
use Rattle.cr_scalar.specs.Host.{Host}
use Rattle.cr_scalar.specs.declared.fault.EvalFault.TheVariants as fault
use Rattle.cr_module.specs.declared.source.ReadFault.{ReadFault}
use Rattle.cr_module.specs.declared.source.ReadFault.TheVariants as read
use Rattle.cr_exec.specs.Answers.{Stage, Faults, IsMeant, behind}
use Rattle.cr_exec.specs.declared.streamed.SourceFault.{SourceFault}
use Rattle.cr_exec.specs.declared.streamed.SourceFault.TheVariants.{Eval, Store}

-- a fault of a reading as one of a SELECT
abbrev pub of_reading : ReadFault → SourceFault
of_reading read.Memory = Eval fault.Memory
of_reading read.Store = Store

-- what the rows stand in failed
abbrev pub is_store : {X : Type 0} → Result X SourceFault → Bool
is_store (Ok x) = false
is_store (Err (Eval e)) = false
is_store (Err Store) = true

-- as Answers, where a call says nothing of a source that failed
abbrev pub Selects : {X Y : Type 0} → Host → List Value → Result X SourceFault → (X → Y) → Stage Y → Type 0
Selects host params (Ok x) view f = IsMeant host params f (view x)
Selects host params (Err (Eval e)) view f = Faults host params f e
Selects host params (Err Store) view f = Unit {0}

-- as Adds, where a call says nothing of a source that failed
abbrev pub AddsRead : {X : Type 0} → Host → List Value → Stage (List X) → List X → List X → Result (Unit {0}) SourceFault → Type 0
AddsRead host params f old new (Ok u) = IsMeant host params (λ m. behind old (f m)) new
AddsRead host params f old new (Err (Eval e)) = Faults host params f e
AddsRead host params f old new (Err Store) = Unit {0}
