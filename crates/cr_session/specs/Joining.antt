-- What a SELECT sees of tables that are joined: of each its rows, or those of the keys that its terms tell beside the rows of the
-- tables before it. Source: this project's own.
use Rattle.std.specs.Prelude.{◌≡◌, ◌⊎◌, ℕ, true, false, find, List, Option, Some, Result, MatchResult, length}
use Rattle.std.specs.List.{list_all, AllByRecursion}
use Rattle.std.specs.Option.{ForSome}
use Rattle.cr_value.specs.declared.value.Value.{Value}
use Rattle.cr_lattice.specs.declared.change.Change.{Change}
use Rattle.cr_lattice.specs.declared.table.Table.{Table}
use Rattle.cr_lattice.specs.declared.table.TableDef.{TableDef}
use Rattle.cr_lattice.specs.Rows.{rows}
use Rattle.cr_cells.specs.declared.store.CellsError.{CellsError}
use Rattle.cr_cells.specs.Calls.{IsRefusal}
use Rattle.cr_cells.specs.Tables.{AreWellFormed, is_named}
use Rattle.cr_term.specs.declared.expr.Expr.{Expr}
use Rattle.cr_term.specs.declared.query.Joined.{Joined}
use Rattle.cr_term.specs.declared.query.Query.{Query}
use Rattle.cr_term.specs.declared.query.Resolved.TheVariants as r
use Rattle.cr_scalar.specs.Host.{Host as Means}
use Rattle.cr_query.specs.Query.{Row, answer}
use Rattle.cr_meaning.specs.View as view
use Rattle.cr_meaning.specs.Meaning.{IsLimit, Regard, regarded}
use Rattle.cr_exec.specs.Equalities.{OrdersBytes}
use Rattle.cr_snapshot.specs.Seen.{name_of}
use Rattle.cr_touched.specs.Parts.{is_key_of, part}
use Rattle.cr_world.specs.State.{State, now, table_rows}
use Rattle.cr_world.specs.Statement.{evaluated}
use Rattle.cr_language.specs.Sql as sql
use Rattle.cr_sought.specs.declared.joined.Partner.{Partner}
use Rattle.cr_sought.specs.Sought.{joined_keys}
use Rattle.cr_sought.specs.Joins.{MayLeaveOut, has_quiet_on, is_safe, width}
use Rattle.cr_sought.specs.Lists.{listed_keys}
use Rattle.cr_session.specs.Lookup.{in_order}

-- ---- queries whose tables are looked up

-- the first table of the name of a joined one has as many columns as that
abbrev pub IsTableOf : List Table → Joined → Type 0
IsTableOf tables j = (t : Table) × (find (is_named (name_of j)) tables ≡ Some t) × (length t.definition.columns ≡ width j)

-- Each of its tables is one of the store, no ON of a LEFT JOIN can fault, texts are compared byte by byte, and the changes of the
-- open transaction are well formed.
pub record IsJoinOf (means : Means) (pending : Option (List Change)) (tables : List Table) (q : Query) : Type 0 where
  pub bytes : OrdersBytes means
  pub fit : ForSome pending (AreWellFormed tables)
  pub stored : AllByRecursion (IsTableOf tables) q.joined
  pub safe : list_all is_safe q.joined ≡ true

-- ---- the rows of one of them

-- terms of a query tell these keys of the rows of a table beside the rows of others
abbrev pub IsToldBeside : List Value → Query → Joined → TableDef → ℕ → List Partner → List (List ℕ) → Type 0
IsToldBeside params q j def base ps keys = (terms : List Expr) × MayLeaveOut q j terms × (joined_keys base def params terms ps ≡ Some keys)

-- a list in WHERE tells them, where no LEFT JOIN brings the table and no ON can fault
abbrev pub IsToldByList : List Value → Query → Joined → TableDef → ℕ → List (List ℕ) → Type 0
IsToldByList params q j def base keys =
    (j.is_left ≡ false) × (list_all has_quiet_on q.joined ≡ true) × (listed_keys base def params q.filter ≡ Some keys)

-- keys that are told in one of both ways, in the order of their bytes and each once
pub record IsTold (params : List Value) (q : Query) (j : Joined) (def : TableDef) (base : ℕ) (ps : List Partner) (keys : List (List ℕ)) : Type 0 where
  pub given : List (List ℕ)
  pub told : IsToldBeside params q j def base ps given ⊎ IsToldByList params q j def base given
  pub are : keys ≡ in_order given

-- the rows that show there of the table of that name, or of a replicated table those whose keys the terms tell
abbrev pub IsFound : List Value → State → Query → Joined → ℕ → List Partner → Table → List Row → Type 0
IsFound params st q j base ps t found =
    (found ≡ table_rows (now st) t)
    ⊎ ((t.is_replicated ≡ true)
    × (keys : List (List ℕ))
    × IsTold params q j t.definition base ps keys
    × (found ≡ rows (part (name_of j) (is_key_of keys) (now st)) t.definition))

abbrev pub IsFoundIn : List Value → State → List Table → Query → Joined → ℕ → List Partner → List Row → Type 0
IsFoundIn params st tables q j base ps found = (t : Table) → find (is_named (name_of j)) tables ≡ Some t → IsFound params st q j base ps t found

-- a reading leaves a session where it stands, and finds something, or memory or the store does not suffice
pub record Finds {T : Type 0} (is : T → Type 0) (old new : State) (result : Result T CellsError) : Type 0 where
  pub same : new ≡ old
  pub finds : MatchResult result is IsRefusal

-- ---- what suffices for a query

-- a query answers over these rows of its tables what it answers over all that shows there
abbrev pub Suffice : Means → List Value → Query → State → List (List Row) → Type 0
Suffice means params q st tables =
    (regard : Regard) → IsLimit regard.most → evaluated (regarded regard means params) st (sql.view (r.Select q)) ≡ answer (regarded regard means params) (view.query q) tables
