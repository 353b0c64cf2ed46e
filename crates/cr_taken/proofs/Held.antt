-- A table may hold the rows that a write wants of it, and so the changes of the write are taken.
use Rattle.std.proofs.Common.{◌≡◌, ℕ, List, map, Some, None, sym, subst}
use Rattle.std.specs.List.{AllByRecursion}
use Rattle.std.specs.List.Sorted.{IsStrictlySortedBy}
use Rattle.cr_value.specs.declared.value.Value.{Value}
use Rattle.cr_value.specs.Order.{bytes_cmp}
use Rattle.cr_lattice.specs.declared.change.Change.{Change}
use Rattle.cr_lattice.specs.declared.table.Table.{Table}
use Rattle.cr_lattice.specs.declared.table.TableDef.{TableDef}
use Rattle.cr_lattice.specs.Profile.{profile_fault}
use Rattle.cr_lattice.specs.Rows.{rows}
use Rattle.cr_cells.specs.Tables.{first_fault}
use Rattle.cr_delta.specs.Delta.{delta}
use Rattle.cr_delta.specs.Key.{key_of, HasKey}
use Rattle.cr_scalar.specs.Host.{Host}
use Rattle.cr_query.specs.Query.{Row, Meaning}
use Rattle.cr_query.specs.Queries.{Insert, Update, Delete}
use Rattle.cr_query.specs.Writes.{wanted_by_insert, wanted_by_update, wanted_by_delete}
use Rattle.cr_meaning.specs.View.{Ordered}
use Rattle.cr_meaning.specs.Meaning.{sized}
use Rattle.cr_wanted.specs.Judged.{AreTaken}
use Rattle.cr_taken.specs.Taken.{AreFitting, AreHeld, Replicates, AreKept, Have64Bits, Inserts64Bits, Updates64Bits}
use Rattle.cr_taken.proofs.Tables.{fit}
use Rattle.cr_taken.proofs.Changes.{changes_are_taken}
use Rattle.cr_taken.proofs.Shown.{shown_fit}
use Rattle.cr_taken.proofs.Puts.{insert_fits, update_fits, delete_fits}
use Rattle.cr_taken.proofs.Short.{rows_small, insert_small, update_small, delete_small}
use Rattle.cr_taken.proofs.Sized.{sized_small}

module _ (tables : List Table) (kept : List Change) (def : TableDef) (are : AreKept tables kept) (there : Replicates tables def) where
  pub changes_are : (site : List ℕ) (wanted taken : List Row) → AreHeld def wanted → AreTaken def wanted taken → first_fault tables (delta def site kept taken) ≡ None
  changes_are site wanted taken held t =
      subst (λ (x : List Row). AllByRecursion (HasKey def) x → IsStrictlySortedBy bytes_cmp (map (key_of def) x) → first_fault tables (delta def site kept x) ≡ None) (sym t.by_key)
      (λ keys rise. changes_are_taken def wanted t.whole keys tables kept site are there held rise) t.keys t.in_order

  module _ {E : Type 0} (m : Meaning E) where
    pub insert_fitting : (w : Insert E) (out : List Row) → wanted_by_insert m def.columns w (rows kept def) ≡ Some out → AreFitting def out
    insert_fitting w out k = insert_fits m def w (rows kept def) out (shown_fit tables kept def are there) k

    pub update_fitting : (w : Update E) (out : List Row) → wanted_by_update m def.columns w (rows kept def) ≡ Some out → AreFitting def out
    update_fitting w out k = update_fits m def w (rows kept def) out (shown_fit tables kept def are there) k

    pub delete_fitting : (w : Delete E) (out : List Row) → wanted_by_delete m w (rows kept def) ≡ Some out → AreFitting def out
    delete_fitting w out k = delete_fits m def w (rows kept def) out (shown_fit tables kept def are there) k

module _ (tables : List Table) (kept : List Change) (def : TableDef) (are : AreKept tables kept) (there : Replicates tables def) (bits : Have64Bits kept) where
  pub shown_held : AreHeld def (rows kept def)
  shown_held = record { fitting = shown_fit tables kept def are there; small = rows_small tables kept def are there bits }

  accepted : profile_fault def ≡ None
  accepted = (fit tables kept def are there).profile

  module _ (host : Host) (params : List Value) where
    pub insert_held : (w : Insert Ordered) (out : List Row) → Inserts64Bits (sized host params) w → wanted_by_insert (sized host params) def.columns w (rows kept def) ≡ Some out → AreHeld def out
    insert_held w out given k = record {
      fitting = insert_fitting tables kept def are there (sized host params) w out k;
      small = insert_small (sized host params) def accepted (sized_small host params) w (rows kept def) out given (rows_small tables kept def are there bits) k;
    }

    pub update_held : (w : Update Ordered) (out : List Row) → Updates64Bits (sized host params) w (rows kept def) → wanted_by_update (sized host params) def.columns w (rows kept def) ≡ Some out → AreHeld def out
    update_held w out given k = record {
      fitting = update_fitting tables kept def are there (sized host params) w out k;
      small = update_small (sized host params) def accepted (sized_small host params) w (rows kept def) out given (rows_small tables kept def are there bits) k;
    }

    pub delete_held : (w : Delete Ordered) (out : List Row) → wanted_by_delete (sized host params) w (rows kept def) ≡ Some out → AreHeld def out
    delete_held w out k = record {
      fitting = delete_fitting tables kept def are there (sized host params) w out k;
      small = delete_small (sized host params) w (rows kept def) out (rows_small tables kept def are there bits) k;
    }
