-- What a statement may name: tables and modules, functions and collations. Source: SQLite's documents of its names; that
-- names of tables and modules share one space is this project's own.
use Rattle.std.specs.Prelude.{ℕ, suc, Bool, ◌||◌, List, [], ◌∷◌, ◌++◌, codes, Option, Some, None, if◌then◌else◌}
use Rattle.std.specs.Option.{option_or}
use Rattle.std.specs.Str.{bytes_eq}
use Rattle.cr_lattice.specs.declared.table.TableDef.{TableDef}
use Rattle.cr_lattice.specs.declared.table.Table.{Table}
use Rattle.cr_lattice.specs.declared.catalog.Catalog.{Catalog}
use Rattle.cr_host.specs.declared.function.Definition.{Definition}
use Rattle.cr_host.specs.BuiltIn.{is_built_in_function}
use Rattle.cr_term.specs.declared.query.Held.TheVariants as held
use Rattle.cr_term.specs.declared.query.Relation.{Relation}
use Rattle.cr_questions.specs.Questions.{Name}
use Rattle.cr_resolve.specs.declared.refusal.Refusal.{Refusal}
use Rattle.cr_resolve.specs.declared.refusal.Refusal.TheVariants.{NoSuchTable, NoSuchCollation}
use Rattle.cr_resolve.specs.Reading.{Read, fine, refused}

pub record Known : Type 0 where
  pub catalog : Catalog
  -- the host's function of a name for that many arguments, and whether it has one for some number of them
  pub function_of : Name → ℕ → Option Definition
  pub has_function : Name → Bool
  pub has_collation : Name → Bool

-- ---- tables and modules

abbrev pub table_at : Name → ℕ → List Table → Option Relation
table_at name at [] = None
table_at name at (t ∷ ts) = if bytes_eq name t.definition.name then Some (record { held = held.Table at t.is_replicated; definition = t.definition }) else table_at name (suc at) ts

abbrev pub module_at : Name → ℕ → List TableDef → Option Relation
module_at name at [] = None
module_at name at (m ∷ ms) = if bytes_eq name m.name then Some (record { held = held.Module at; definition = m }) else module_at name (suc at) ms

abbrev pub relation_of : Known → Name → Option Relation
relation_of known name = option_or (table_at name 0 known.catalog.tables) (module_at name 0 known.catalog.modules)

-- in the place of a table that isn't there
abbrev pub no_relation : Relation
no_relation = record { held = held.Module 0; definition = record { name = []; columns = [] } }

abbrev pub or_no_table : Name → Option Relation → Read Relation
or_no_table name (Some r) = fine r
or_no_table name None = refused (NoSuchTable name) no_relation

abbrev pub table : Known → Name → Read Relation
table known name = or_no_table name (relation_of known name)

-- ---- functions

abbrev pub is_site_id : Name → Bool
is_site_id name = bytes_eq name (codes "crsql_site_id")

abbrev pub is_db_version : Name → Bool
is_db_version name = bytes_eq name (codes "crsql_db_version")

-- some function has that name, whatever its count of arguments
abbrev pub is_function : Known → Name → Bool
is_function known name = is_built_in_function name || is_site_id name || is_db_version name || known.has_function name

-- ---- collations

abbrev pub collation : Known → Name → List Refusal
collation known name = if known.has_collation name then [] else NoSuchCollation name ∷ []

abbrev pub collations : Known → List Name → List Refusal
collations known [] = []
collations known (n ∷ ns) = collation known n ++ collations known ns
