-- The changes that an INSERT, an UPDATE or a DELETE makes on a replicated table, over a snapshot of the replica. Source: this
-- project's own; the rows that a write wants are SQLite's, and the changes that lead to them cr-sqlite's.
use Rattle.std.specs.Prelude.{◌≡◌, ◌⊎◌, ℕ, true, false, List, Result, Ok, Err}
use Rattle.cr_value.specs.declared.value.Value.{Value}
use Rattle.cr_lattice.specs.declared.change.Change.{Change}
use Rattle.cr_lattice.specs.declared.table.TableDef.{TableDef}
use Rattle.cr_lattice.specs.Rows.{rows}
use Rattle.cr_delta.specs.Delta.{delta, passes_limit}
use Rattle.cr_scalar.specs.Host.{Host}
use Rattle.cr_scalar.specs.declared.fault.EvalFault.{EvalFault}
use Rattle.cr_term.specs.declared.query.Insert.{Insert}
use Rattle.cr_term.specs.declared.query.Update.{Update}
use Rattle.cr_term.specs.declared.query.Delete.{Delete}
use Rattle.cr_query.specs.Query.{Row}
use Rattle.cr_query.specs.Writes.{inserted_rows, wanted_by_insert, wanted_by_update, wanted_by_delete, has_long_key, lacks_value, has_twice, by_key}
use Rattle.cr_meaning.specs.View as view
use Rattle.cr_exec.specs.Answers.{Stage, IsMeant, Faults}
use Rattle.cr_replica.specs.declared.snapshot.Snapshot.{Snapshot}
use Rattle.cr_world.specs.declared.refusal.Refusal.{Refusal}
use Rattle.cr_world.specs.declared.refusal.Refusal.TheVariants as refusal
use Rattle.cr_world.specs.Refusals.{of_fault}

-- ---- the rows that a write wants of its table, given those that it shows

-- the rows that an INSERT brings
abbrev pub insert_brings : Insert → Stage (List Row)
insert_brings w m = inserted_rows m w.relation.definition.columns (view.insert w)

-- the rows that it wants where this is kept
abbrev pub insert_wants : List Change → Insert → Stage (List Row)
insert_wants kept w m = wanted_by_insert m w.relation.definition.columns (view.insert w) (rows kept w.relation.definition)

abbrev pub update_wants : Snapshot → Update → Stage (List Row)
update_wants s w m = wanted_by_update m w.relation.definition.columns (view.update w) (rows s.kept w.relation.definition)

abbrev pub delete_wants : Snapshot → Delete → Stage (List Row)
delete_wants s w m = wanted_by_delete m (view.delete w) (rows s.kept w.relation.definition)

-- ---- what stands against rows

-- the changes by a site that lead from what is kept to these rows
abbrev pub changes_to : TableDef → List ℕ → List Change → List Row → List Change
changes_to def site kept rows = delta def site kept (by_key def rows)

-- What stands against the rows first, and how it is told: a key that is too long, then a NULL where a value is wanted, then
-- two rows of one key, then a version or a causal length over the limit.
abbrev pub Stands : TableDef → List ℕ → List Change → List Row → Refusal → Type 0
Stands def site kept rows r =
    ((has_long_key def rows ≡ true) × (r ≡ refusal.TooBig))
    ⊎ (((has_long_key def rows ≡ false) × (lacks_value def rows ≡ true) × (r ≡ refusal.NotNull))
    ⊎ (((has_long_key def rows ≡ false) × (lacks_value def rows ≡ false) × (has_twice def rows ≡ true) × (r ≡ refusal.PrimaryKey))
    ⊎ ((has_long_key def rows ≡ false) × (lacks_value def rows ≡ false) × (has_twice def rows ≡ false) × (passes_limit (changes_to def site kept rows) ≡ true) × (r ≡ refusal.VersionLimit))))

-- nothing stands against the rows, and these are the changes that lead to them
pub record AreMade (def : TableDef) (site : List ℕ) (kept : List Change) (rows : List Row) (changes : List Change) : Type 0 where
  pub short : has_long_key def rows ≡ false
  pub whole : lacks_value def rows ≡ false
  pub once : has_twice def rows ≡ false
  pub within : passes_limit (changes_to def site kept rows) ≡ false
  pub are : changes ≡ changes_to def site kept rows

-- the changes that lead to the rows, or there is no memory, or what stands against the rows first
abbrev pub LeadsTo : {X : Type 0} → TableDef → List ℕ → List Change → List Row → Result X Refusal → (X → List Change) → Type 0
LeadsTo def site kept rows (Ok x) view = AreMade def site kept rows (view x)
LeadsTo def site kept rows (Err r) view = (r ≡ refusal.Memory) ⊎ Stands def site kept rows r

-- What stands against rows by themselves, wherever they come to.
abbrev pub StandsAlone : TableDef → List Row → Refusal → Type 0
StandsAlone def rows r =
    ((has_long_key def rows ≡ true) × (r ≡ refusal.TooBig)) ⊎ ((has_long_key def rows ≡ false) × (lacks_value def rows ≡ true) × (r ≡ refusal.NotNull))

abbrev pub StandAlone : TableDef → List Row → Result (Unit {0}) Refusal → Type 0
StandAlone def rows (Ok u) = (has_long_key def rows ≡ false) × (lacks_value def rows ≡ false)
StandAlone def rows (Err r) = StandsAlone def rows r

-- ---- what a write makes

-- the rows are wanted, nothing stands against them, and these are the changes that lead to them
pub record Leads (host : Host) (params : List Value) (def : TableDef) (site : List ℕ) (kept : List Change) (f : Stage (List Row)) (changes : List Change) : Type 0 where
  pub rows : List Row
  pub both : IsMeant host params f rows
  pub short : has_long_key def rows ≡ false
  pub whole : lacks_value def rows ≡ false
  pub once : has_twice def rows ≡ false
  pub within : passes_limit (changes_to def site kept rows) ≡ false
  pub are : changes ≡ changes_to def site kept rows

-- there is no memory, or an expression has a fault, or something stands against the rows that are wanted
abbrev pub IsRefused : Host → List Value → TableDef → List ℕ → List Change → Stage (List Row) → Refusal → Type 0
IsRefused host params def site kept f r =
    (r ≡ refusal.Memory)
    ⊎ (((e : EvalFault) × (r ≡ of_fault e) × Faults host params f e)
    ⊎ ((rows : List Row) × IsMeant host params f rows × Stands def site kept rows r))

abbrev pub Changes : {X : Type 0} → Host → List Value → TableDef → List ℕ → List Change → Stage (List Row) → Result X Refusal → (X → List Change) → Type 0
Changes host params def site kept f (Ok x) view = Leads host params def site kept f (view x)
Changes host params def site kept f (Err r) view = IsRefused host params def site kept f r
