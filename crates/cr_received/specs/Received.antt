-- The changes that an INSERT into the table of changes brings. Source: this project's own; that such an INSERT takes changes
-- is cr-sqlite's.
use Rattle.std.specs.Prelude.{◌≡◌, ◌⊎◌, List, [], ◌∷◌, Option, Some, None, Result, Ok, Err}
use Rattle.std.specs.List.{filter_map}
use Rattle.cr_value.specs.declared.value.Value.{Value}
use Rattle.cr_lattice.specs.declared.change.Change.{Change}
use Rattle.cr_lattice.specs.declared.check.BadChange.{BadChange}
use Rattle.cr_lattice.specs.declared.check.BadChange.TheVariants.{Shape}
use Rattle.cr_lattice.specs.declared.table.Table.{Table}
use Rattle.cr_cells.specs.Tables.{fault_in, earlier}
use Rattle.cr_term.specs.declared.query.Insert.{Insert}
use Rattle.cr_scalar.specs.Host.{Host}
use Rattle.cr_scalar.specs.declared.fault.EvalFault.{EvalFault}
use Rattle.cr_query.specs.Query.{Row}
use Rattle.cr_query.specs.Writes.{inserted_rows}
use Rattle.cr_meaning.specs.View as view
use Rattle.cr_exec.specs.Answers.{Stage, Faults, IsMeant}
use Rattle.cr_world.specs.declared.refusal.Refusal.{Refusal}
use Rattle.cr_world.specs.declared.refusal.Refusal.TheVariants as refusal
use Rattle.cr_world.specs.Refusals.{of_fault}
use Rattle.cr_world.specs.State.{changes_columns}
use Rattle.cr_world.specs.Statement.{change_of_row}

-- ---- rows

abbrev pub fault_of_change : List Table → Option Change → Option BadChange
fault_of_change tables None = Some Shape
fault_of_change tables (Some c) = fault_in tables c

-- why a row is no well-formed change of one of the tables
abbrev pub fault_of_row : List Table → Row → Option BadChange
fault_of_row tables row = fault_of_change tables (change_of_row row)

-- why the first row is none that is none
abbrev pub first_bad_in : List Table → List Row → Option BadChange
first_bad_in tables [] = None
first_bad_in tables (row ∷ rows) = earlier (fault_of_row tables row) (first_bad_in tables rows)

-- this is why, and so it is told
abbrev pub IsToldOf : Option BadChange → Refusal → Type 0
IsToldOf fault r = (b : BadChange) × (fault ≡ Some b) × (r ≡ refusal.BadChange b)

-- the change of a row, or why it is none; or there is no memory
abbrev pub TellsChange : List Table → Row → Result Change Refusal → Type 0
TellsChange tables row (Ok c) = (change_of_row row ≡ Some c) × (fault_in tables c ≡ None)
TellsChange tables row (Err r) = (r ≡ refusal.Memory) ⊎ IsToldOf (fault_of_row tables row) r

-- the changes of rows, or why the first is none that is none; or there is no memory
abbrev pub TellsChanges : {X : Type 0} → (X → List Change) → List Table → List Row → Result X Refusal → Type 0
TellsChanges view tables rows (Ok x) = (first_bad_in tables rows ≡ None) × (view x ≡ filter_map change_of_row rows)
TellsChanges view tables rows (Err r) = (r ≡ refusal.Memory) ⊎ IsToldOf (first_bad_in tables rows) r

-- ---- an INSERT

-- the rows that it brings
abbrev pub brought : Insert → Stage (List Row)
brought insert m = inserted_rows m changes_columns (view.insert insert)

module _ (host : Host) (params : List Value) (tables : List Table) (insert : Insert) where
  -- these are the changes of the rows that it brings, each well formed for one of the tables
  pub record AreReceived (changes : List Change) : Type 0 where
    pub rows : List Row
    pub brought : IsMeant host params (brought insert) rows
    pub well_formed : first_bad_in tables rows ≡ None
    pub changes_of_rows : changes ≡ filter_map change_of_row rows

  -- some row that it brings is no well-formed change: so is told why the first is none
  pub record IsBad (r : Refusal) : Type 0 where
    pub rows : List Row
    pub brought : IsMeant host params (brought insert) rows
    pub first : IsToldOf (first_bad_in tables rows) r

  -- an expression has this fault
  abbrev pub IsFaulty : Refusal → Type 0
  IsFaulty r = (e : EvalFault) × (r ≡ of_fault e) × Faults host params (brought insert) e

  -- the changes, or why there are none; or there is no memory
  abbrev pub Receives : {X : Type 0} → (X → List Change) → Result X Refusal → Type 0
  Receives view (Ok x) = AreReceived (view x)
  Receives view (Err r) = (r ≡ refusal.Memory) ⊎ (IsFaulty r ⊎ IsBad r)
