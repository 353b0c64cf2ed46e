-- What is seen of a snapshot is what a session sees.
use Rattle.std.proofs.Common.{◌≡◌, ◌∙◌, ℕ, Bool, true, false, cond, List, [], ◌∷◌, map, find, Option, Some, refl, sym, ap}
use Rattle.std.proofs.lemmas.Simd.{map-map}
use Rattle.cr_cells.specs.Tables.{is_named}
use Rattle.cr_lattice.specs.Check.{same_bytes}
use Rattle.cr_replica.specs.declared.snapshot.Listing.{Listing}
use Rattle.cr_replica.specs.declared.snapshot.Snapshot.{Snapshot}
use Rattle.std.specs.Prelude.{if◌then◌else◌}
use Rattle.cr_world.specs.State.{State, ModuleState, catalog, changes_definition, changes_name, is_module, module_rows, row_of, rows_named, rows_or}
use Rattle.cr_snapshot.specs.Seen.{IsNamed, IsSeen, catalog_of, definition_of, is_listing, listed_rows, listing, rows_listed, rows_seen}

pub named : (st : State) (s : Snapshot) → IsSeen st s → IsNamed st s
named st s is = record {
  modules = ap (map definition_of) is.modules ∙ map-map definition_of listing st.modules;
  tables = is.tables;
  site = is.site;
  version = is.version;
}

pub catalog_is : (st : State) (s : Snapshot) → IsNamed st s → catalog st ≡ catalog_of s
catalog_is st s is = λ i. record {
  tables = sym is.tables i;
  modules = changes_definition ∷ sym is.modules i;
  site = sym is.site i;
  db_version = sym is.version i;
}

first_listed : (m : ModuleState) (b : Bool) (o : Option ModuleState) (p : Option Listing) → module_rows o ≡ listed_rows p → module_rows (cond b (Some m) o) ≡ listed_rows (cond b (Some (listing m)) p)
first_listed m true o p e = refl
first_listed m false o p e = e

listed : (name : List ℕ) (ms : List ModuleState) → module_rows (find (is_module name) ms) ≡ rows_listed (map listing ms) name
listed name [] = refl
listed name (m ∷ ms) = first_listed m (is_module name m) (find (is_module name) ms) (find (is_listing name) (map listing ms)) (listed name ms)

pub rows_are : (st : State) (s : Snapshot) (name : List ℕ) → IsSeen st s → rows_named st name ≡ rows_seen s name
rows_are st s name is =
    let of_modules : module_rows (find (is_module name) st.modules) ≡ rows_listed s.modules name = listed name st.modules ∙ ap (λ (ls : List Listing). rows_listed ls name) (sym is.modules) in
    λ i. rows_or (sym is.kept i) (find (is_named name) (sym is.tables i)) (if same_bytes changes_name name then map row_of (sym is.cells i) else of_modules i)
