-- What a statement sees of a replica as it stood at a moment. Source: this project's own; what may be named and which rows
-- are shown is said of states of sessions.
use Rattle.std.specs.Prelude.{◌≡◌, ℕ, pos, Bool, List, [], ◌∷◌, map, find, Option, Some, None, if◌then◌else◌}
use Rattle.cr_lattice.specs.declared.catalog.Catalog.{Catalog}
use Rattle.cr_lattice.specs.declared.table.TableDef.{TableDef}
use Rattle.cr_lattice.specs.Check.{same_bytes}
use Rattle.cr_cells.specs.Holding.{since}
use Rattle.cr_cells.specs.Tables.{is_named}
use Rattle.cr_query.specs.Query.{Row}
use Rattle.cr_replica.specs.declared.snapshot.Listing.{Listing}
use Rattle.cr_replica.specs.declared.snapshot.Snapshot.{Snapshot}
use Rattle.cr_term.specs.declared.query.Joined.{Joined}
use Rattle.cr_world.specs.State.{State, ModuleState, changes_definition, changes_name, module_definition, now, row_of, rows_or}

abbrev pub definition_of : Listing → TableDef
definition_of l = l.definition

abbrev pub catalog_of : Snapshot → Catalog
catalog_of s = record { tables = s.tables; modules = changes_definition ∷ map definition_of s.modules; site = s.site; db_version = s.version }

abbrev pub is_listing : List ℕ → Listing → Bool
is_listing name l = same_bytes l.definition.name name

abbrev pub listed_rows : Option Listing → List Row
listed_rows None = []
listed_rows (Some l) = l.rows

-- the rows of the listed module of a name
abbrev pub rows_listed : List Listing → List ℕ → List Row
rows_listed ls name = listed_rows (find (is_listing name) ls)

-- the rows of the table of a name, or of the table of changes, or of a module
abbrev pub rows_seen : Snapshot → List ℕ → List Row
rows_seen s name = rows_or s.kept (find (is_named name) s.tables) (if same_bytes changes_name name then map row_of s.cells else rows_listed s.modules name)

abbrev pub name_of : Joined → List ℕ
name_of j = j.relation.definition.name

-- a host's module as it stands
abbrev pub listing : ModuleState → Listing
listing m = record { definition = module_definition m; rows = m.rows }

-- The snapshot has the names of a session that stands there: what the last commit left, and the modules.
pub record IsNamed (st : State) (s : Snapshot) : Type 0 where
  pub modules : map definition_of s.modules ≡ map module_definition st.modules
  pub tables : s.tables ≡ st.holding.tables
  pub site : s.site ≡ st.holding.site
  pub version : s.version ≡ st.holding.version

-- The snapshot is what a session sees that stands there: what the last commit left, what is kept of it with the changes of the
-- open transaction, and the modules with their rows.
pub record IsSeen (st : State) (s : Snapshot) : Type 0 where
  pub modules : s.modules ≡ map listing st.modules
  pub tables : s.tables ≡ st.holding.tables
  pub site : s.site ≡ st.holding.site
  pub version : s.version ≡ st.holding.version
  pub cells : s.cells ≡ since st.holding.cells (pos 0)
  pub kept : s.kept ≡ now st
