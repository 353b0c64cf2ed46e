-- What a SELECT over a view answers.
use Rattle.std.proofs.Common.{◌≡◌, List, Err, subst}
use Rattle.cr_value.specs.declared.value.Value.{Value}
use Rattle.cr_scalar.specs.Host.{Host}
use Rattle.cr_scalar.specs.declared.fault.EvalFault.{EvalFault}
use Rattle.cr_exec.specs.Answers.{Faults, Stage}
use Rattle.cr_exec.specs.Streamed.{Selects}
use Rattle.cr_exec.specs.declared.streamed.SourceFault.{SourceFault}
use Rattle.cr_exec.specs.declared.streamed.SourceFault.TheVariants.{Eval}

pub fault_told : {X Y : Type 0} (host : Host) (params : List Value) (view : X → Y) (f : Stage Y) (e : SourceFault) (fault : EvalFault) → e ≡ Eval fault → Selects host params (Err e) view f → Faults host params f fault
fault_told {X} {Y} host params view f e fault is h = subst (λ (d : SourceFault). Selects {X = X} {Y = Y} host params (Err d) view f) is h
