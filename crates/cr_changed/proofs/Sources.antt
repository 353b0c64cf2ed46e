-- What a write wants of rows that stand in memory.
use Rattle.std.proofs.Common.{List, Err}
use Rattle.cr_value.specs.declared.value.Value.{Value}
use Rattle.cr_scalar.specs.Host.{Host}
use Rattle.cr_exec.specs.Answers.{Faults, Stage}
use Rattle.cr_exec.specs.Streamed.{Selects}
use Rattle.cr_exec.specs.declared.streamed.SourceFault.{SourceFault}
use Rattle.cr_exec.specs.declared.streamed.SourceFault.TheVariants.{Eval, Store}
use Rattle.cr_changed.specs.Steps.{of_source}

pub fault_told : {X Y : Type 0} (host : Host) (params : List Value) (view : X → Y) (f : Stage Y) (e : SourceFault)
    → Selects host params (Err e) view f → Faults host params f (of_source e)
fault_told host params view f (Eval e) h = h
fault_told host params view f Store h = tt
