-- What a statement sees of the tables that it names, and of one table whose WHERE may tell the keys of its rows. Source: this
-- project's own.
use Rattle.std.specs.Prelude.{◌≡◌, ◌⊎◌, ℕ, ℤ, pos, ◌≤ℤ◌, Bool, true, false, find, List, [], ◌∷◌, Option, Some, None, Result, MatchResult}
use Rattle.std.specs.Option.{ForSome}
use Rattle.cr_value.specs.declared.value.Value.{Value}
use Rattle.cr_value.specs.Order.{bytes_cmp}
use Rattle.cr_lattice.specs.declared.change.Change.{Change}
use Rattle.cr_lattice.specs.declared.table.Table.{Table}
use Rattle.cr_lattice.specs.declared.table.TableDef.{TableDef}
use Rattle.cr_lattice.specs.Sets.{set_of}
use Rattle.cr_cells.specs.declared.store.CellsError.{CellsError}
use Rattle.cr_cells.specs.Calls.{IsRefusal}
use Rattle.cr_cells.specs.Holding.{since}
use Rattle.cr_cells.specs.Tables.{AreWellFormed, is_named}
use Rattle.cr_term.specs.declared.expr.Expr.{Expr}
use Rattle.cr_term.specs.declared.query.Delete.{Delete}
use Rattle.cr_term.specs.declared.query.Query.{Query}
use Rattle.cr_term.specs.declared.query.Resolved.TheVariants as r
use Rattle.cr_term.specs.declared.query.Update.{Update}
use Rattle.cr_scalar.specs.Host.{Host as Means}
use Rattle.cr_query.specs.Query.{Row}
use Rattle.cr_meaning.specs.Meaning.{IsLimit, Regard, meaning, regarded}
use Rattle.cr_exec.specs.Answers.{Stage}
use Rattle.cr_replica.specs.declared.snapshot.Snapshot.{Snapshot}
use Rattle.cr_snapshot.specs.Seen.{IsNamed, IsSeen}
use Rattle.cr_taken.specs.Taken.{replicated}
use Rattle.cr_touched.specs.Parts.{is_key_of, part}
use Rattle.cr_touched.specs.Tables.{is_name_of, of_tables}
use Rattle.cr_language.specs.Sql.{view}
use Rattle.cr_world.specs.declared.refusal.Refusal.{Refusal}
use Rattle.cr_world.specs.State.{State, changes_name, now}
use Rattle.cr_world.specs.Statement.{evaluated}
use Rattle.cr_answer.specs.Selecting.{answer_seen}
use Rattle.cr_changed.specs.Changed.{IsRefused, Leads, delete_wants, update_wants}
use Rattle.cr_exec.specs.Equalities.{OrdersBytes}
use Rattle.cr_sought.specs.Bounds.{lower_bound}
use Rattle.cr_sought.specs.Laws.{LeaveOutOthers}
use Rattle.cr_sought.specs.Lists.{sought_keys}
use Rattle.cr_sought.specs.Writes.{delete_over, update_over}

-- ---- some tables

-- their names by their bytes, each once
abbrev pub in_order : List (List ℕ) → List (List ℕ)
in_order names = set_of bytes_cmp names

-- the table of changes is one of them
abbrev pub names_changes : List (List ℕ) → Bool
names_changes tables = is_name_of tables changes_name

-- a reading leaves a session where it stands, and gives what shows there of some tables, or memory or the store does not suffice
pub record SeesTables {T : Type 0} (changes : T → List Change) (old new : State) (tables : List (List ℕ)) (result : Result T CellsError) : Type 0 where
  pub same : new ≡ old
  pub sees : MatchResult result (λ kept. changes kept ≡ of_tables tables (now old)) IsRefusal

-- The snapshot has the names of a session that stands there, and of some tables what shows there.
pub record IsSeenIn (st : State) (tables : List (List ℕ)) (s : Snapshot) : Type 0 where
  pub named : IsNamed st s
  pub kept : s.kept ≡ of_tables tables (now st)

-- It has what shows there of these tables; where the table of changes is one of them, all that a session sees that stands there.
abbrev pub ShowsTables : State → List (List ℕ) → Snapshot → Type 0
ShowsTables st tables s = ((names_changes tables ≡ true) × IsSeen st s) ⊎ ((names_changes tables ≡ false) × IsSeenIn st tables s)

-- ---- some keys

-- The terms tell the keys of the only rows of the replicated table of a name on which they can be true; and the changes of the
-- open transaction are well formed for the tables.
pub record IsSought (means : Means) (params : List Value) (pending : Option (List Change)) (tables : List Table) (name : List ℕ) (terms : List Expr) (keys : List (List ℕ)) : Type 0 where
  pub bytes : OrdersBytes means
  pub fit : ForSome pending (AreWellFormed tables)
  pub def : TableDef
  pub there : find (is_named name) tables ≡ Some (replicated def)
  pub told : sought_keys def params terms ≡ Some keys

-- The snapshot has the names of a session that stands there, and of some keys of a table what shows there.
pub record IsSeenAt (st : State) (name : List ℕ) (keys : List (List ℕ)) (s : Snapshot) : Type 0 where
  pub named : IsNamed st s
  pub kept : s.kept ≡ part name (is_key_of keys) (now st)

-- On rows of other keys of the replicated table of a name the terms are known not to be all true; and the changes of the open
-- transaction are well formed for the tables.
pub record IsWithin (means : Means) (params : List Value) (st : State) (name : List ℕ) (terms : List Expr) (keys : List (List ℕ)) : Type 0 where
  pub fit : ForSome st.pending (AreWellFormed st.holding.tables)
  pub def : TableDef
  pub there : find (is_named name) st.holding.tables ≡ Some (replicated def)
  pub others : LeaveOutOthers means params def (now st) terms keys

-- It has what shows there of the table of the name, or of keys within which the terms can be true.
abbrev pub IsLook : Means → List Value → State → List ℕ → List Expr → Snapshot → Type 0
IsLook means params st name terms s =
    ShowsTables st (name ∷ []) s ⊎ ((keys : List (List ℕ)) × IsWithin means params st name terms keys × IsSeenAt st name keys s)

-- ---- what is new

-- the place of db_version among the columns of the table of changes
abbrev pub version_place : ℕ
version_place = 5

-- All changes on which the terms of a query of the table of changes can be true are stamped above the version: the terms tell it, or
-- it is 0, as all are. No table has that name.
pub record IsNewest (params : List Value) (tables : List Table) (name : List ℕ) (terms : List Expr) (version : ℤ) : Type 0 where
  pub changes : name ≡ changes_name
  pub no_table : find (is_named name) tables ≡ None
  pub from_0 : pos 0 ≤ℤ version
  pub told : (version ≡ pos 0) ⊎ (lower_bound params terms version_place ≡ Some version)

-- The snapshot has the names of a session that stands there, and of the last commit what is stamped above a version.
pub record IsSeenAbove (st : State) (version : ℤ) (s : Snapshot) : Type 0 where
  pub named : IsNamed st s
  pub cells : s.cells ≡ since st.holding.cells version

-- a reading leaves a session where it stands, and gives a snapshot, or memory or the store does not suffice
pub record Looks (is : Snapshot → Type 0) (old new : State) (result : Result Snapshot CellsError) : Type 0 where
  pub same : new ≡ old
  pub looks : MatchResult result is IsRefusal

-- ---- what suffices for a statement

-- a query answers over the snapshot what it answers over all that shows there, whatever counts as a fault
abbrev pub ShowsQuery : Means → List Value → Query → State → Snapshot → Type 0
ShowsQuery means params q st s =
    (regard : Regard) → IsLimit regard.most → evaluated (regarded regard means params) st (view (r.Select q)) ≡ answer_seen s q (regarded regard means params)

-- where each fault is one, without a limit on values and with it
abbrev pub ShowsStrictly : Means → List Value → Query → State → Snapshot → Type 0
ShowsStrictly means params q st s =
    (most : Option ℕ) → IsLimit most → evaluated (meaning most means params) st (view (r.Select q)) ≡ answer_seen s q (meaning most means params)

-- What a write of a table makes over the snapshot, changes or a refusal, it makes over all that shows there.
pub record ShowsWrite (means : Means) (params : List Value) (def : TableDef) (over whole : Stage (List Row)) (st : State) (s : Snapshot) : Type 0 where
  pub named : IsNamed st s
  pub leads : (changes : List Change) → Leads means params def s.site s.kept over changes → Leads means params def st.holding.site (now st) whole changes
  pub refused : (f : Refusal) → IsRefused means params def s.site s.kept over f → IsRefused means params def st.holding.site (now st) whole f

abbrev pub ShowsUpdate : Means → List Value → Update → State → Snapshot → Type 0
ShowsUpdate means params u st s = ShowsWrite means params u.relation.definition (update_wants s u) (update_over (now st) u) st s

abbrev pub ShowsDelete : Means → List Value → Delete → State → Snapshot → Type 0
ShowsDelete means params d st s = ShowsWrite means params d.relation.definition (delete_wants s d) (delete_over (now st) d) st s
