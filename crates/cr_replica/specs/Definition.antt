-- Which tables a replica defines. Source: this project's own profile; names of tables are told apart by their bytes.
use Rattle.std.specs.Prelude.{◌≡◌, ℕ, Bool, true, false, not, List, map, position, Some, None, Result, Ok, Err}
use Rattle.std.specs.List.{list_any}
use Rattle.cr_lattice.specs.declared.table.ColumnDef.{ColumnDef}
use Rattle.cr_lattice.specs.declared.table.Table.{Table}
use Rattle.cr_lattice.specs.declared.table.TableDef.{TableDef}
use Rattle.cr_lattice.specs.Profile.{profile_fault, lacks_default, HasDistinctNames, IsFirstRepeat}
use Rattle.cr_lattice.specs.Rows.{default_of}
use Rattle.cr_cells.specs.declared.store.StoreFault.TheVariants as store
use Rattle.cr_cells.specs.declared.store.CellsError.{CellsError}
use Rattle.cr_cells.specs.declared.store.CellsError.TheVariants as cells
use Rattle.cr_cells.specs.Tables.{is_named, with_table}
use Rattle.cr_cells.specs.Holding.{Holding}
use Rattle.cr_replica.specs.declared.definition.DefineError.{DefineError}
use Rattle.cr_replica.specs.declared.definition.DefineError.TheVariants.{Memory, Store, Profile, TableExists, Duplicate, NoSuchCollation, NoDefault}

-- a collation that there is not, where has tells those that there are
abbrev pub has_unknown_collation : (List ℕ → Bool) → ColumnDef → Bool
has_unknown_collation has col = not (has col.collation)

abbrev pub is_taken : List Table → TableDef → Bool
is_taken tables def = list_any (is_named def.name) tables

-- nothing stands against the definition
pub record IsAccepted (has : List ℕ → Bool) (tables : List Table) (def : TableDef) : Type 0 where
  pub profile : profile_fault def ≡ None
  pub new : is_taken tables def ≡ false
  pub names : HasDistinctNames def
  pub collations : position (has_unknown_collation has) def.columns ≡ None
  pub defaults : position lacks_default def.columns ≡ None

-- The first that stands against the definition: the profile, the table's name, its columns' names, their collations,
-- their defaults.
abbrev pub IsRefusedFor : (List ℕ → Bool) → List Table → TableDef → DefineError → Type 0
IsRefusedFor has tables def Memory = Unit {0}
IsRefusedFor has tables def (Store f) = f ≡ store.Refused
IsRefusedFor has tables def (Profile f) = profile_fault def ≡ Some f
IsRefusedFor has tables def TableExists = (profile_fault def ≡ None) × (is_taken tables def ≡ true)
IsRefusedFor has tables def (Duplicate i) = (profile_fault def ≡ None) × (is_taken tables def ≡ false) × IsFirstRepeat def i
IsRefusedFor has tables def (NoSuchCollation i) =
    (profile_fault def ≡ None) × (is_taken tables def ≡ false) × HasDistinctNames def × (position (has_unknown_collation has) def.columns ≡ Some i)
IsRefusedFor has tables def (NoDefault i) =
    (profile_fault def ≡ None) × (is_taken tables def ≡ false) × HasDistinctNames def × (position (has_unknown_collation has) def.columns ≡ None)
    × (position lacks_default def.columns ≡ Some i)

-- the definition itself is refused
abbrev pub IsRefusal : DefineError → Type 0
IsRefusal Memory = ⊥
IsRefusal (Store f) = ⊥
IsRefusal (Profile f) = Unit {0}
IsRefusal TableExists = Unit {0}
IsRefusal (Duplicate i) = Unit {0}
IsRefusal (NoSuchCollation i) = Unit {0}
IsRefusal (NoDefault i) = Unit {0}

-- memory or the store does not suffice
abbrev pub is_want : DefineError → Bool
is_want Memory = true
is_want (Store f) = true
is_want (Profile f) = false
is_want TableExists = false
is_want (Duplicate i) = false
is_want (NoSuchCollation i) = false
is_want (NoDefault i) = false

-- how a store's refusal is passed on
abbrev pub of_store : CellsError → DefineError
of_store cells.Memory = Memory
of_store (cells.Store f) = Store f
of_store cells.VersionLimit = Store store.Refused

-- a default means its literal after the affinity
abbrev pub with_settled_default : ColumnDef → ColumnDef
with_settled_default col = record col { default = default_of col }

abbrev pub settled : TableDef → TableDef
settled def = record def { columns = map with_settled_default def.columns }

-- what is held after a table is defined
abbrev pub defined : Holding → TableDef → Holding
defined h def = record h { tables = with_table h.tables (settled def) true }

abbrev pub DefinesTable : (List ℕ → Bool) → Holding → Holding → TableDef → Result (Unit {0}) DefineError → Type 0
DefinesTable has old new def (Ok u) = IsAccepted has old.tables def × (new ≡ defined old def)
DefinesTable has old new def (Err e) = IsRefusedFor has old.tables def e × (new ≡ old)
