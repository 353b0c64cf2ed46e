-- How what the layers below say is told. Source: this project's own.
use Rattle.std.specs.Prelude.{◌≡◌, ◌⊎◌, true, false, List, Result, Ok, Err}
use Rattle.cr_lattice.specs.declared.change.Change.{Change}
use Rattle.cr_delta.specs.declared.error.DeltaError.{DeltaError}
use Rattle.cr_delta.specs.declared.error.DeltaError.TheVariants as error
use Rattle.cr_delta.specs.Delta.{passes_limit}
use Rattle.cr_scalar.specs.declared.fault.EvalFault.{EvalFault}
use Rattle.cr_scalar.specs.declared.fault.EvalFault.TheVariants as eval
use Rattle.cr_exec.specs.declared.streamed.SourceFault.{SourceFault}
use Rattle.cr_exec.specs.declared.streamed.SourceFault.TheVariants as source
use Rattle.cr_wanted.specs.declared.judged.Against.{Against}
use Rattle.cr_wanted.specs.declared.judged.Against.TheVariants as against
use Rattle.cr_world.specs.declared.refusal.Refusal.{Refusal}
use Rattle.cr_world.specs.declared.refusal.Refusal.TheVariants as refusal

-- a fault of rows that stand in memory; a store there is not
abbrev pub of_source : SourceFault → EvalFault
of_source (source.Eval fault) = fault
of_source source.Store = eval.Memory

-- rows that a table does not take
abbrev pub of_against : Against → Refusal
of_against against.LongKey = refusal.TooBig
of_against against.LackingValue = refusal.NotNull
of_against against.KeyTwice = refusal.PrimaryKey
of_against against.Memory = refusal.Memory

-- changes that are not given
abbrev pub of_delta : DeltaError → Refusal
of_delta error.Memory = refusal.Memory
of_delta error.VersionLimit = refusal.VersionLimit

-- these are the changes, which pass no limit; or they pass it, or there is no memory
abbrev pub Gives : {X : Type 0} → List Change → Result X Refusal → (X → List Change) → Type 0
Gives changes (Ok x) view = (passes_limit changes ≡ false) × (view x ≡ changes)
Gives changes (Err r) view = (r ≡ refusal.Memory) ⊎ ((passes_limit changes ≡ true) × (r ≡ refusal.VersionLimit))
