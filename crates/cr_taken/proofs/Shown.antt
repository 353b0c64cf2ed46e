-- The rows that a table shows fit it: each value is as its column's affinity wants it.
use Rattle.std.proofs.Common.{◌≡◌, inl, inr, ℕ, zero, suc, ◌+◌, ◌-◌, ◌≤◌, Bool, true, false, cond, ◌&&◌, eqb, List, [], ◌∷◌, length, map, get_or, Option, Some, None, unwrap_or, refl, sym, ap, ◌∙◌, arith}
use Rattle.std.specs.Prelude.{count_by, filter, find, slice_index_or}
use Rattle.std.specs.List.{zip, AllByRecursion}
use Rattle.std.specs.Option.{option_map_or}
use Rattle.std.specs.Ordering.{is_eq}
use Rattle.std.proofs.lemmas.Bool.{eq-eqb}
use Rattle.std.proofs.lemmas.Cmp.{tied_itself}
use Rattle.std.proofs.lemmas.List.{length-map}
use Rattle.std.proofs.lemmas.List.Sums.{sum_by-cons}
use Rattle.cr_value.specs.declared.affinity.Affinity.{Affinity}
use Rattle.cr_value.specs.declared.affinity.Affinity.TheVariants as affinity
use Rattle.cr_value.specs.declared.value.Value.{Value}
use Rattle.cr_value.specs.declared.value.Value.TheVariants.{Null, Int, Text, Blob}
use Rattle.cr_value.specs.Affinity.{applied}
use Rattle.cr_value.specs.Order.{bytes_cmp, value_cmp}
use Rattle.cr_value.specs.OrderLaws.{value_total}
use Rattle.cr_value.specs.Packing.{packed}
use Rattle.cr_value.specs.Unpacking.{unpacked}
use Rattle.cr_value.proofs.ValueLaws.{applied_twice}
use Rattle.cr_lattice.specs.declared.change.Change.{Change}
use Rattle.cr_lattice.specs.declared.table.Table.{Table}
use Rattle.cr_lattice.specs.declared.table.ColumnDef.{ColumnDef}
use Rattle.cr_lattice.specs.declared.table.TableDef.{TableDef}
use Rattle.cr_lattice.specs.Check.{same_bytes, is_odd, is_fixed, key_affinity, key_fits, is_key, stands_at}
use Rattle.cr_lattice.specs.Profile.{key_count, has_key}
use Rattle.cr_lattice.specs.Rows.{is_present, alive_keys, default_of, shown, column_value, cell, row, rows}
use Rattle.cr_lattice.proofs.Tested.{and_true, split}
use Rattle.cr_delta.proofs.Among.{Among}
use Rattle.cr_delta.proofs.KeyCells.{count_no, place_once, place_within}
use Rattle.cr_taken.specs.Taken.{IsFitting, AreFitting, Replicates, AreKept}
use Rattle.cr_taken.proofs.Members.{all_map, all_filter, all_set}
use Rattle.cr_taken.proofs.Tables.{writable, kept_well_formed, well_formed_parts}

abbrev pub Fixed : List ColumnDef → List Value → Type 0
Fixed cols row = AllByRecursion (λ cell. is_fixed cell.0.affinity cell.1 ≡ true) (zip cols row)

-- ---- columns outside the key

pub applied_fixed : (a : Affinity) (v : Value) → is_fixed a (applied a v) ≡ true
applied_fixed a v = ap (λ w. is_eq (value_cmp w (applied a v))) (applied_twice a v) ∙ ap is_eq (tied_itself value_total (applied a v))

null_fixed : (a : Affinity) → is_fixed a Null ≡ true
null_fixed affinity.Integer = refl
null_fixed affinity.Text = refl
null_fixed affinity.Blob = refl
null_fixed affinity.Numeric = refl

shown_fixed : (col : ColumnDef) (v : Value) → is_fixed col.affinity (shown col v) ≡ true
shown_fixed col Null =
    elim (col.not_null) as (λ b. is_fixed col.affinity (cond b (default_of col) Null) ≡ true) [
      | true ↦ applied_fixed col.affinity col.default
      | false ↦ null_fixed col.affinity
    ]
shown_fixed col (Int n) = applied_fixed col.affinity (Int n)
shown_fixed col (Text t) = applied_fixed col.affinity (Text t)
shown_fixed col (Blob b) = applied_fixed col.affinity (Blob b)

column_fixed : (col : ColumnDef) (o : Option Change) → is_fixed col.affinity (option_map_or (λ c. shown col c.val) o (default_of col)) ≡ true
column_fixed col None = applied_fixed col.affinity col.default
column_fixed col (Some c) = shown_fixed col c.val

-- ---- key columns

count_cons : (p : ColumnDef → Bool) (x : ColumnDef) (xs : List ColumnDef) → count_by p (x ∷ xs) ≡ cond (p x) 1 0 + count_by p xs
count_cons p x xs = sum_by-cons (λ y. cond (p y) 1 0) x xs

count_yes : (p : ColumnDef → Bool) (x : ColumnDef) (xs : List ColumnDef) → p x ≡ true → count_by p (x ∷ xs) ≡ 1 + count_by p xs
count_yes p x xs e = count_cons p x xs ∙ rw e refl

count_some : (p : ColumnDef → Bool) (xs : List ColumnDef) (a : ColumnDef) → Among xs a → p a ≡ true → 1 ≤ count_by p xs
count_some p [] a m e = absurd m
count_some p (x ∷ xs) a m e =
    elim m [
      | inl here ↦ (let n = count_yes p x xs (ap p (sym here) ∙ e) in omega (arith, n))
      | inr there ↦ (let n = count_some p xs a there e in let c = count_cons p x xs in omega (arith, n, c))
    ]

-- the one column that passes a test is found
one_found : (p : ColumnDef → Bool) (cols : List ColumnDef) (col : ColumnDef) → count_by p cols ≡ 1 → Among cols col → p col ≡ true → find p cols ≡ Some col
one_found p [] col one m e = absurd m
one_found p (c ∷ cols) col one m e =
    elim m [
      | inl here ↦ (let so : p c ≡ true = ap p (sym here) ∙ e in rw so (ap Some (sym here)))
      | inr there ↦ elim (split (p c)) [
        | inl so ↦ (
            let n = count_yes p c cols so in
            let k = count_some p cols col there e in
            absurd (omega (arith, one, n, k)))
        | inr not_so ↦ (let n = count_no p c cols not_so in rw not_so (one_found p cols col (sym n ∙ one) there e))
      ]
    ]

-- the value at a place of a key, if there is one
part_fixed : (def : TableDef) (first : ℕ) (vs : List Value) (i place : ℕ) → place ≡ first + i → key_fits def first vs ≡ true → is_fixed (key_affinity def place) (get_or vs i Null) ≡ true
unfolding key_fits
part_fixed def first [] i place e f = null_fixed (key_affinity def place)
part_fixed def first (v ∷ vs) zero place e f = let same : place ≡ first = omega (arith, e) in ap (λ n. is_fixed (key_affinity def n) v) same ∙ (and_true _ _ f).0
part_fixed def first (v ∷ vs) (suc i) place e f = part_fixed def (first + 1) vs i place (omega (arith, e)) (and_true _ _ f).1

module _ (def : TableDef) (keyed : has_key def ≡ true) (pk : List ℕ) (is : is_key def pk ≡ true) where
  module _ (col : ColumnDef) (m : Among def.columns col) (place : ℕ) (at : col.key ≡ Some place) where
    affinity_is : key_affinity def place ≡ col.affinity
    unfolding key_affinity has_key
    affinity_is =
        let p = place_within def col place keyed m at in
        let one = place_once def (key_count def) place (and_true _ _ keyed).1 p.0 p.1 in
        let stands : stands_at place col ≡ true = rw at (eq-eqb place place refl) in
        ap (λ (o : Option ColumnDef). option_map_or (λ c. c.affinity) o affinity.Blob) (one_found (stands_at place) def.columns col one m stands)

    read_fixed : (o : Option (List Value)) → option_map_or (λ vs. (eqb (length vs) (key_count def) && key_fits def 1 vs) && same_bytes (packed vs) pk) o false ≡ true → is_fixed (key_affinity def place) (slice_index_or (unwrap_or o []) (place - 1) Null) ≡ true
    read_fixed None e = absurd cc
    read_fixed (Some vs) e = let low = (place_within def col place keyed m at).0 in part_fixed def 1 vs (place - 1) place (omega (arith, low)) (and_true _ _ (and_true _ _ e).0).1

    key_fixed : is_fixed col.affinity (slice_index_or (unwrap_or (unpacked pk) []) (place - 1) Null) ≡ true
    unfolding is_key
    key_fixed = ap (λ a. is_fixed a (slice_index_or (unwrap_or (unpacked pk) []) (place - 1) Null)) (sym affinity_is) ∙ read_fixed (unpacked pk) is

  cell_fixed : (kept : List Change) (col : ColumnDef) → Among def.columns col → is_fixed col.affinity (cell kept def.name pk col) ≡ true
  cell_fixed kept col m =
      elim (col.key) as (λ k. col.key ≡ k → is_fixed col.affinity (option_map_or (λ place. slice_index_or (unwrap_or (unpacked pk) []) (place - 1) Null) k (column_value kept def.name pk col)) ≡ true) [
        | None ↦ λ at. column_fixed col _
        | Some place ↦ λ at. key_fixed col m place at
      ] refl

-- ---- rows

pub zip_fixed : (f : ColumnDef → Value) (cols : List ColumnDef) → ((col : ColumnDef) → Among cols col → is_fixed col.affinity (f col) ≡ true) → Fixed cols (map f cols)
zip_fixed f [] each = tt
zip_fixed f (col ∷ cols) each = (each col (inl refl), zip_fixed f cols (λ c m. each c (inr m)))

row_fitting : (def : TableDef) (kept : List Change) (pk : List ℕ) → has_key def ≡ true → is_key def pk ≡ true → IsFitting def (row kept def pk)
unfolding row
row_fitting def kept pk keyed is = record {
  width = length-map def.columns (cell kept def.name pk);
  fixed = zip_fixed (cell kept def.name pk) def.columns (λ col m. cell_fixed def keyed pk is kept col m);
}

module _ (tables : List Table) (kept : List Change) (def : TableDef) (are : AreKept tables kept) (there : Replicates tables def) where
  -- the keys of the rows that are present are keys of the table
  pub alive_are_keys : AllByRecursion (λ pk. is_key def pk ≡ true) (alive_keys kept def.name)
  unfolding alive_keys
  alive_are_keys =
      let of : AllByRecursion (λ c. is_key def c.pk ≡ true) (filter (is_present def.name) kept) =
      all_filter (is_present def.name) _ (λ c. is_key def c.pk ≡ true) kept
      (λ c w p. elim w [
        | inl well ↦ (well_formed_parts c def well).1
        | inr other ↦ (let so = (and_true (same_bytes c.table def.name) (is_odd c.cl) p).0 in absurd cc)
      ]) (kept_well_formed tables kept def are there) in
      all_set bytes_cmp (λ pk. is_key def pk ≡ true) (map (λ c. c.pk) (filter (is_present def.name) kept))
      (all_map (λ c. is_key def c.pk ≡ true) (λ pk. is_key def pk ≡ true) (λ c. c.pk) (filter (is_present def.name) kept) (λ c e. e) of)

  pub shown_fit : AreFitting def (rows kept def)
  unfolding rows
  shown_fit = all_map (λ pk. is_key def pk ≡ true) (IsFitting def) (row kept def) (alive_keys kept def.name) (λ pk is. row_fitting def kept pk (writable tables kept def are there).key is) alive_are_keys
