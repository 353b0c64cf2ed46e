-- The tables of a store, and which changes are well formed for one of them. Source: this project's own profile.
use Rattle.std.specs.Prelude.{◌≡◌, ℕ, Bool, true, false, not, ◌&&◌, ◌||◌, nat_lt, List, [], ◌∷◌, ◌++◌, map, cond, find, position, Option, Some, None, is_some}
use Rattle.std.specs.List.{list_any, list_all, AllByRecursion}
use Rattle.std.specs.Option.{option_map}
use Rattle.cr_lattice.specs.declared.change.Change.{Change}
use Rattle.cr_lattice.specs.declared.check.BadChange.{BadChange}
use Rattle.cr_lattice.specs.declared.table.ColumnDef.{ColumnDef}
use Rattle.cr_lattice.specs.declared.table.Table.{Table}
use Rattle.cr_lattice.specs.declared.table.TableDef.{TableDef}
use Rattle.cr_lattice.specs.Check.{same_bytes, fault_of}
use Rattle.cr_lattice.specs.Profile.{profile_fault, HasDistinctNames, lacks_default}

-- ---- definitions

-- no ASCII capital letter
abbrev pub is_folded : List ℕ → Bool
is_folded name = list_all (λ b. not (nat_lt 64 b && nat_lt b 91)) name

-- the names of the table, its columns and their collations are folded
unfoldable pub has_folded_names : TableDef → Bool
has_folded_names def = is_folded def.name && list_all (λ col. is_folded col.name && is_folded col.collation) def.columns

-- each column outside the key that wants a value has a default
unfoldable pub has_defaults : TableDef → Bool
has_defaults def = not (is_some (position lacks_default def.columns))

-- the definition is one that a store takes
pub record IsFit (def : TableDef) : Type 0 where
  pub folded : has_folded_names def ≡ true
  pub profile : profile_fault def ≡ None
  pub names : HasDistinctNames def

-- ---- tables

abbrev pub is_named : List ℕ → Table → Bool
is_named name t = same_bytes t.definition.name name

abbrev pub same_name : Table → Table → Bool
same_name a b = is_named a.definition.name b

-- the table's definition is fit, and a replicated table has its defaults
pub record IsStored (t : Table) : Type 0 where
  pub fit : IsFit t.definition
  pub defaults : (not t.is_replicated || has_defaults t.definition) ≡ true

-- the definition is fit, and no table has its name
pub record IsNewTable (tables : List Table) (def : TableDef) : Type 0 where
  pub fit : IsFit def
  pub unused : list_any (is_named def.name) tables ≡ false

-- a table of that name is there, and has its defaults
unfoldable pub is_markable : List ℕ → List Table → Bool
is_markable name tables = list_any (λ t. is_named name t && has_defaults t.definition) tables

abbrev pub marked : List ℕ → Table → Table
marked name t = record t { is_replicated = t.is_replicated || is_named name t }

-- the tables, of which the one of that name is replicated
unfoldable pub with_replicated : List ℕ → List Table → List Table
with_replicated name tables = map (marked name) tables

-- the tables and a new one
abbrev pub with_table : List Table → TableDef → Bool → List Table
with_table tables def is_replicated = tables ++ record { definition = def; is_replicated = is_replicated } ∷ []

-- the definition with a column behind its others
abbrev pub with_column : ColumnDef → TableDef → TableDef
with_column col def = record def { columns = def.columns ++ col ∷ [] }

-- the table, which has the column if it is of that name
abbrev pub altered : List ℕ → ColumnDef → Table → Table
altered name col t = cond (is_named name t) (record t { definition = with_column col t.definition }) t

-- the tables, of which the one of that name has the column behind its others
unfoldable pub with_added : List ℕ → ColumnDef → List Table → List Table
with_added name col tables = map (altered name col) tables

-- The column is outside the key, and with it the table of that name is still one that a store takes.
pub record IsNewColumn (tables : List Table) (name : List ℕ) (col : ColumnDef) : Type 0 where
  pub outside : col.key ≡ None
  pub stored : AllByRecursion IsStored (with_added name col tables)

-- ---- changes

-- t is replicated, and c is a change of a table of that name
abbrev pub is_table_of : Change → Table → Bool
is_table_of c t = t.is_replicated && is_named c.table t

-- why c is not well formed for a replicated table, if it is not
unfoldable pub fault_in : List Table → Change → Option BadChange
fault_in tables c = fault_of c (option_map (λ t. t.definition) (find (is_table_of c) tables))

-- each change is well formed for a replicated table
abbrev pub AreWellFormed : List Table → List Change → Type 0
AreWellFormed tables cs = AllByRecursion (λ c. fault_in tables c ≡ None) cs

abbrev pub earlier : Option BadChange → Option BadChange → Option BadChange
earlier None later = later
earlier (Some b) later = Some b

-- why the first change that is not well formed is not, if there is one
abbrev pub first_fault : List Table → List Change → Option BadChange
first_fault tables [] = None
first_fault tables (c ∷ cs) = earlier (fault_in tables c) (first_fault tables cs)
