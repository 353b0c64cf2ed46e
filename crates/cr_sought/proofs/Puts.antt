-- A row keeps its key where no key column is assigned.
use Rattle.std.proofs.Common.{◌≡◌, inl, inr, ℕ, zero, suc, Bool, false, List, [], ◌∷◌, Option, Some, None, is_some, refl, ap, ◌∙◌}
use Rattle.std.specs.Prelude.{◌==◌, find, slice_get}
use Rattle.std.specs.List.{zip, list_any, filter_map}
use Rattle.std.specs.Option.{option_map, option_map_or}
use Rattle.cr_value.specs.declared.value.Value.{Value}
use Rattle.cr_value.specs.Packing.{packed}
use Rattle.cr_lattice.specs.declared.table.ColumnDef.{ColumnDef}
use Rattle.cr_lattice.specs.declared.table.TableDef.{TableDef}
use Rattle.cr_lattice.specs.Check.{is_key_column, stands_at}
use Rattle.cr_lattice.proofs.Tested.{split, or_false}
use Rattle.cr_delta.specs.Key.{key_part, key_places, key_values, key_of}
use Rattle.cr_query.specs.Query.{Row}
use Rattle.cr_query.specs.Writes.{put, put_all}
use Rattle.cr_sought.specs.Sought.{is_of_key}

not_of_key : (place : ℕ) (k : Option ℕ) → is_some k ≡ false → option_map_or (λ p. p == place) k false ≡ false
not_of_key place None e = refl
not_of_key place (Some p) e = absurd cc

abbrev found : (ColumnDef → Bool) → List ColumnDef → Row → Option (ColumnDef × Value)
found p cols row = find (λ x. p x.0) (zip cols row)

-- the value in the key column at a place stays
pub part_stays : (place : ℕ) (cols : List ColumnDef) (at : ℕ) (v : Value) (row : Row)
    → option_map_or is_key_column (slice_get cols at) false ≡ false
    → found (stands_at place) cols (put cols at v row) ≡ found (stands_at place) cols row
part_stays place [] at v row outside = refl
part_stays place (col ∷ cols) at v [] outside = refl
part_stays place (col ∷ cols) zero v (old ∷ row) outside = let no = not_of_key place col.key outside in rw no refl
part_stays place (col ∷ cols) (suc at) v (old ∷ row) outside =
    elim (split (stands_at place col)) [
      | inl so ↦ rw so refl
      | inr not_so ↦ rw not_so (part_stays place cols at v row outside)
    ]

one_stays : (def : TableDef) (at : ℕ) (v : Value) (row : Row) → is_of_key def at ≡ false
    → key_of def (put def.columns at v row) ≡ key_of def row
unfolding key_of key_values key_part
one_stays def at v row outside =
    ap packed (λ i. filter_map (λ place. option_map (λ cell. cell.1) (part_stays place def.columns at v row outside i)) key_places)

pub key_stays : (def : TableDef) (places : List ℕ) (vs : List Value) (row : Row) → list_any (is_of_key def) places ≡ false
    → key_of def (put_all def.columns places vs row) ≡ key_of def row
key_stays def [] vs row outside = refl
key_stays def (p ∷ ps) [] row outside = refl
key_stays def (p ∷ ps) (v ∷ vs) row outside =
    let o = or_false (is_of_key def p) (list_any (is_of_key def) ps) outside in
    key_stays def ps vs (put def.columns p v row) o.1 ∙ one_stays def p v row o.0
