-- Statements once their names are read and their questions are answered, over expressions of any kind. Source: this
-- project's own; what may be written to besides tables is SQLite's virtual tables and cr-sqlite's `crsql_changes`.
use Rattle.std.specs.Prelude.{ℕ, Bool, List}
use Rattle.cr_lattice.specs.declared.table.ColumnDef.{ColumnDef}
use Rattle.cr_lattice.specs.declared.table.TableDef.{TableDef}
use Rattle.cr_query.specs.Queries.{Query, Insert as Insertion, Update as Change, Delete as Deletion}

-- what a name stands for
pub data Target : Type 0 where
  Table : TableDef → Target
  -- the table of changes
  Changes : Target
  -- a host's module, by its name, and its columns
  Module : List ℕ → List ColumnDef → Target

pub data Resolved (E : Type 0) : Type 0 where
  -- the names of its tables in the order of FROM, and the query
  Select : List (List ℕ) → Query E → Resolved E
  -- the call that makes a table replicated, and whether it is ignored
  Mark : Target → Bool → Resolved E
  Insert : Target → Insertion E → Resolved E
  Update : Target → Change E → Resolved E
  Delete : Target → Deletion E → Resolved E
  -- a new table, and whether IF NOT EXISTS finds the name taken: then nothing is made
  Create : TableDef → Bool → Resolved E
  -- a new column of a table
  Alter : Target → ColumnDef → Resolved E
  Begin : Resolved E
  Commit : Resolved E
  Rollback : Resolved E
