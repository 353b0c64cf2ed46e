-- What a session stands at, and the rows that its tables show. Source: this project's own; that a transaction's own writes
-- are seen in it is SQLite's.
use Rattle.std.specs.Prelude.{ℕ, pos, Bool, false, List, [], ◌∷◌, map, find, Option, Some, None, is_some, codes, if◌then◌else◌}
use Rattle.std.specs.List.{flat_map}
use Rattle.std.specs.Ordering.{on}
use Rattle.cr_value.specs.declared.value.Value.TheVariants.{Null, Int, Text, Blob}
use Rattle.cr_value.specs.declared.affinity.Affinity.{Affinity}
use Rattle.cr_value.specs.declared.affinity.Affinity.TheVariants as affinity
use Rattle.cr_value.specs.Order.{bytes_cmp}
use Rattle.cr_lattice.specs.declared.catalog.Catalog.{Catalog}
use Rattle.cr_lattice.specs.declared.change.Change.{Change}
use Rattle.cr_lattice.specs.declared.stamped.Stamped.{Stamped}
use Rattle.cr_lattice.specs.declared.table.ColumnDef.{ColumnDef}
use Rattle.cr_lattice.specs.declared.table.Table.{Table}
use Rattle.cr_lattice.specs.declared.table.TableDef.{TableDef}
use Rattle.cr_lattice.specs.Check.{same_bytes}
use Rattle.cr_lattice.specs.Keep.{join}
use Rattle.cr_lattice.specs.Rows.{rows}
use Rattle.cr_lattice.specs.Sets.{set_of}
use Rattle.cr_cells.specs.Holding.{Holding, kept_of, since}
use Rattle.cr_cells.specs.Tables.{is_named}
use Rattle.cr_guard.specs.declared.event.Event.{Event}
use Rattle.cr_guard.specs.Heard.{heard}
use Rattle.cr_query.specs.Query.{Row}
use Rattle.std.specs.Prelude.{Result}
use Rattle.cr_world.specs.declared.refusal.Refusal.{Refusal}
use Rattle.cr_world.specs.Resolved.{Target}
use Rattle.cr_world.specs.Resolved as target

-- a host's module: its name, its columns, its rows, and what one update with rows makes of them
pub record ModuleState : Type 0 where
  pub name : List ℕ
  pub columns : List ColumnDef
  pub rows : List Row
  -- the rows once it took these lists, one update after another, or why it doesn't take one of them
  pub updated : List (List Row) → Result (List Row) Refusal

-- the last commit, the changes of the open transaction, if there is one, and the modules
pub record State : Type 0 where
  pub holding : Holding
  pub pending : Option (List Change)
  pub modules : List ModuleState

abbrev pub new_state : Holding → State
new_state h = record { holding = h; pending = None; modules = [] }

abbrev pub in_transaction : State → Bool
in_transaction st = is_some st.pending

abbrev pub with_pending : List Change → Option (List Change) → List Change
with_pending kept None = kept
with_pending kept (Some more) = join kept more

-- the changes that are kept with those of the open transaction
unfoldable pub now : State → List Change
now st = with_pending (kept_of st.holding) st.pending

-- ---- the table of changes

abbrev pub changes_name : List ℕ
changes_name = codes "crsql_changes"

abbrev pub change_column : List ℕ → Affinity → ColumnDef
change_column name a = record { name = name; affinity = a; collation = codes "binary"; not_null = false; key = None; default = Null }

abbrev pub changes_columns : List ColumnDef
changes_columns =
    change_column (codes "table") affinity.Text ∷ change_column (codes "pk") affinity.Blob ∷ change_column (codes "cid") affinity.Text
    ∷ change_column (codes "val") affinity.Blob ∷ change_column (codes "col_version") affinity.Integer ∷ change_column (codes "db_version") affinity.Integer
    ∷ change_column (codes "site_id") affinity.Blob ∷ change_column (codes "cl") affinity.Integer ∷ change_column (codes "seq") affinity.Integer ∷ []

abbrev pub row_of : Stamped → Row
row_of s =
    Text s.change.table ∷ Blob s.change.pk ∷ Text s.change.cid ∷ s.change.val ∷ Int s.change.col_version ∷ Int s.version ∷ Blob s.change.site
    ∷ Int s.change.cl ∷ Int s.seq ∷ []

-- the kept changes of the last commit by their stamps, inside a transaction too
abbrev pub change_rows : Holding → List Row
change_rows h = map row_of (since h.cells (pos 0))

-- ---- names

abbrev pub is_module : List ℕ → ModuleState → Bool
is_module name m = same_bytes m.name name

abbrev pub module_of : State → List ℕ → Option ModuleState
module_of st name = find (is_module name) st.modules

abbrev pub table_of : State → List ℕ → Option Table
table_of st name = find (is_named name) st.holding.tables

abbrev pub changes_definition : TableDef
changes_definition = record { name = changes_name; columns = changes_columns }

abbrev pub module_definition : ModuleState → TableDef
module_definition m = record { name = m.name; columns = m.columns }

-- what a statement may name: the tables, then the table of changes and the host's modules; and the site and the version that
-- it may ask for
abbrev pub catalog : State → Catalog
catalog st = record { tables = st.holding.tables; modules = changes_definition ∷ map module_definition st.modules; site = st.holding.site; db_version = st.holding.version }

-- ---- rows

-- a table that isn't replicated has none
abbrev pub table_rows : List Change → Table → List Row
table_rows kept t = if t.is_replicated then rows kept t.definition else []

abbrev pub rows_or : List Change → Option Table → List Row → List Row
rows_or kept None other = other
rows_or kept (Some t) other = table_rows kept t

abbrev pub module_rows : Option ModuleState → List Row
module_rows None = []
module_rows (Some m) = m.rows

-- of the table of changes, else of a module
abbrev pub other_rows : State → List ℕ → List Row
other_rows st name = if same_bytes changes_name name then change_rows st.holding else module_rows (module_of st name)

-- the rows of the table of a name
abbrev pub rows_named : State → List ℕ → List Row
rows_named st name = rows_or (now st) (table_of st name) (other_rows st name)

-- the rows of a query's tables, in the order of FROM
abbrev pub tables_named : State → List (List ℕ) → List (List Row)
tables_named st names = map (rows_named st) names

abbrev pub columns_of : Target → List ColumnDef
columns_of (target.Table def) = def.columns
columns_of target.Changes = changes_columns
columns_of (target.Module name columns) = columns

abbrev pub name_of : Target → List ℕ
name_of (target.Table def) = def.name
name_of target.Changes = changes_name
name_of (target.Module name columns) = name

-- ---- what a listener hears

-- the tables by the bytes of their names
abbrev pub by_name : List Table → List Table
by_name ts = set_of (on (λ t. t.definition.name) bytes_cmp) ts

abbrev pub heard_of_table : List Change → List Change → Table → List Event
heard_of_table before after t = if t.is_replicated then heard t.definition (rows before t.definition) (rows after t.definition) else []

-- what became of the rows of replicated tables
abbrev pub heard_between : State → State → List Event
heard_between old new = flat_map (heard_of_table (now old) (now new)) (by_name old.holding.tables)
