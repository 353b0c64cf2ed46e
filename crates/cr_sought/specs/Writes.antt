-- An UPDATE or a DELETE whose terms leave out the rows of other keys looks at what is kept of these keys, and no more. Source: this
-- project's own.
use Rattle.std.specs.Prelude.{◌≡◌, ℕ, true, false, List, Result}
use Rattle.cr_value.specs.declared.value.Value.{Value}
use Rattle.cr_lattice.specs.declared.change.Change.{Change}
use Rattle.cr_lattice.specs.declared.table.TableDef.{TableDef}
use Rattle.cr_lattice.specs.Profile.{has_key}
use Rattle.cr_lattice.specs.Rows.{rows}
use Rattle.cr_cells.specs.Tables.{has_defaults}
use Rattle.cr_term.specs.declared.query.Update.{Update}
use Rattle.cr_term.specs.declared.query.Delete.{Delete}
use Rattle.cr_scalar.specs.Host.{Host}
use Rattle.cr_query.specs.Query.{Row}
use Rattle.cr_query.specs.Writes.{wanted_by_update, wanted_by_delete}
use Rattle.cr_meaning.specs.View as view
use Rattle.cr_exec.specs.Answers.{Stage}
use Rattle.cr_world.specs.declared.refusal.Refusal.{Refusal}
use Rattle.cr_touched.specs.Shown.{AreKeptOf}
use Rattle.cr_changed.specs.Changed.{Changes}
use Rattle.cr_sought.specs.Sought.{assigns_key}
use Rattle.cr_sought.specs.Laws.{LeaveOutOthers, of_keys}

-- the rows that a write wants of its table where this is kept
abbrev pub update_over : List Change → Update → Stage (List Row)
update_over kept w m = wanted_by_update m w.relation.definition.columns (view.update w) (rows kept w.relation.definition)

abbrev pub delete_over : List Change → Delete → Stage (List Row)
delete_over kept w m = wanted_by_delete m (view.delete w) (rows kept w.relation.definition)

-- What a DELETE makes over what is kept of some keys, changes or a refusal, it makes over all, if its terms leave out the others.
abbrev pub DeletesByKeys : Type 0 → Type 0
DeletesByKeys X =
    (host : Host) (params : List Value) (def : TableDef) (site : List ℕ) (kept : List Change) (w : Delete) (keys : List (List ℕ))
    (result : Result X Refusal) (changes_in : X → List Change)
    → has_key def ≡ true → has_defaults def ≡ true → AreKeptOf def kept
    → w.relation.definition ≡ def → LeaveOutOthers host params def kept w.filter keys
    → Changes host params def site (of_keys def keys kept) (delete_over (of_keys def keys kept) w) result changes_in
    → Changes host params def site kept (delete_over kept w) result changes_in

-- So it is with an UPDATE that leaves the key columns as they are.
abbrev pub UpdatesByKeys : Type 0 → Type 0
UpdatesByKeys X =
    (host : Host) (params : List Value) (def : TableDef) (site : List ℕ) (kept : List Change) (w : Update) (keys : List (List ℕ))
    (result : Result X Refusal) (changes_in : X → List Change)
    → has_key def ≡ true → has_defaults def ≡ true → AreKeptOf def kept
    → w.relation.definition ≡ def → assigns_key w ≡ false → LeaveOutOthers host params def kept w.filter keys
    → Changes host params def site (of_keys def keys kept) (update_over (of_keys def keys kept) w) result changes_in
    → Changes host params def site kept (update_over kept w) result changes_in
