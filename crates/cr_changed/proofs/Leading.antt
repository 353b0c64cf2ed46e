-- Where rows are wanted, the changes that lead to them are those of the write.
use Rattle.std.proofs.Common.{ℕ, List, Result, Ok, Err, inl, inr}
use Rattle.cr_value.specs.declared.value.Value.{Value}
use Rattle.cr_lattice.specs.declared.change.Change.{Change}
use Rattle.cr_lattice.specs.declared.table.TableDef.{TableDef}
use Rattle.cr_scalar.specs.Host.{Host}
use Rattle.cr_query.specs.Query.{Row}
use Rattle.cr_exec.specs.Answers.{Stage, IsMeant}
use Rattle.cr_world.specs.declared.refusal.Refusal.{Refusal}
use Rattle.cr_changed.specs.Changed.{LeadsTo, Changes}

pub changes_by : {X : Type 0} (host : Host) (params : List Value) (def : TableDef) (site : List ℕ) (kept : List Change) (f : Stage (List Row)) (rows : List Row) (result : Result X Refusal) (view : X → List Change)
    → IsMeant host params f rows → LeadsTo def site kept rows result view → Changes host params def site kept f result view
changes_by host params def site kept f rows (Ok x) view both made = record { rows = rows; both = both; short = made.short; whole = made.whole; once = made.once; within = made.within; are = made.are }
changes_by host params def site kept f rows (Err r) view both (inl memory) = inl memory
changes_by host params def site kept f rows (Err r) view both (inr stands) = inr (inr (rows, both, stands))
