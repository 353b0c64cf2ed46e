-- Rows that a session shows have a value for each column, where those of its modules have.
use Rattle.std.proofs.Common.{◌≡◌, Bool, true, false, List, [], ◌∷◌, length, map, find, Option, Some, None, refl, subst}
use Rattle.std.specs.Prelude.{if◌then◌else◌}
use Rattle.std.specs.Option.{option_map, option_or}
use Rattle.std.specs.List.{AllByRecursion}
use Rattle.std.proofs.lemmas.List.{length-map}
use Rattle.cr_lattice.specs.declared.change.Change.{Change}
use Rattle.cr_lattice.specs.declared.stamped.Stamped.{Stamped}
use Rattle.cr_lattice.specs.declared.table.ColumnDef.{ColumnDef}
use Rattle.cr_lattice.specs.declared.table.Table.{Table}
use Rattle.cr_lattice.specs.declared.table.TableDef.{TableDef}
use Rattle.cr_lattice.specs.Check.{same_bytes}
use Rattle.cr_lattice.specs.Rows.{row, rows, cell, alive_keys}
use Rattle.cr_query.specs.Query.{Row}
use Rattle.cr_questions.specs.Questions.{Name}
use Rattle.cr_world.specs.Language.{definition_in}
use Rattle.cr_world.specs.State.{State, ModuleState, now, catalog, change_rows, changes_definition, changes_name, is_module, module_definition, module_of, module_rows, other_rows, row_of, rows_named, rows_or, table_of, table_rows}
use Rattle.cr_cells.specs.Holding.{since}
use Rattle.std.specs.Prelude.{pos}
use Rattle.cr_language.specs.Readable.{ModulesAreWide}

abbrev pub HaveColumns : List ColumnDef → List Row → Type 0
HaveColumns cols shown = AllByRecursion (λ row. length row ≡ length cols) shown

each_row : (kept : List Change) (d : TableDef) (keys : List (List _)) → HaveColumns d.columns (map (row kept d) keys)
unfolding row
each_row kept d [] = tt
each_row kept d (k ∷ ks) = (length-map d.columns (cell kept d.name k), each_row kept d ks)

rows_wide : (kept : List Change) (d : TableDef) → HaveColumns d.columns (rows kept d)
unfolding rows
rows_wide kept d = each_row kept d (alive_keys kept d.name)

table_wide : (kept : List Change) (t : Table) → HaveColumns t.definition.columns (table_rows kept t)
table_wide kept t = by t.is_replicated where
  by : (b : Bool) → HaveColumns t.definition.columns (if b then rows kept t.definition else [])
  by true = rows_wide kept t.definition
  by false = tt

changes_wide : (cs : List Stamped) → HaveColumns changes_definition.columns (map row_of cs)
changes_wide [] = tt
changes_wide (c ∷ cs) = (refl, changes_wide cs)

module_wide : (name : Name) (ms : List ModuleState) (d : TableDef) → AllByRecursion (λ m. HaveColumns m.columns m.rows) ms → find (λ d. same_bytes d.name name) (map module_definition ms) ≡ Some d
    → HaveColumns d.columns (module_rows (find (is_module name) ms))
module_wide name [] d h e = absurd (let z : ⊥ = cc in z)
module_wide name (m ∷ ms) d h e = by (same_bytes m.name name) e (module_wide name ms d h.1) where
  by : (b : Bool) → (if b then Some (module_definition m) else find (λ d. same_bytes d.name name) (map module_definition ms)) ≡ Some d
      → (find (λ d. same_bytes d.name name) (map module_definition ms) ≡ Some d → HaveColumns d.columns (module_rows (find (is_module name) ms)))
      → HaveColumns d.columns (module_rows (if b then Some m else find (is_module name) ms))
  by true e more = let same : module_definition m ≡ d = cc in subst (λ (t : TableDef). HaveColumns t.columns m.rows) same h.0
  by false e more = more e

pub named_wide : (st : State) → ModulesAreWide st → (name : Name) (d : TableDef) → definition_in (catalog st) name ≡ Some d → HaveColumns d.columns (rows_named st name)
named_wide st wide name d e = by (table_of st name) e where
  other : (b : Bool) → (if b then Some changes_definition else find (λ d. same_bytes d.name name) (map module_definition st.modules)) ≡ Some d
      → HaveColumns d.columns (if b then change_rows st.holding else module_rows (module_of st name))
  other true e = let same : changes_definition ≡ d = cc in subst (λ (t : TableDef). HaveColumns t.columns (change_rows st.holding)) same (changes_wide (since st.holding.cells (pos 0)))
  other false e = module_wide name st.modules d wide e

  by : (o : Option Table) → option_or (option_map (λ t. t.definition) o) (find (λ d. same_bytes d.name name) (catalog st).modules) ≡ Some d → HaveColumns d.columns (rows_or (now st) o (other_rows st name))
  by None e = other (same_bytes changes_name name) e
  by (Some t) e = let same : t.definition ≡ d = cc in subst (λ (u : TableDef). HaveColumns u.columns (table_rows (now st) t)) same (table_wide (now st) t)
