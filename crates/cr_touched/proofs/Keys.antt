-- A row that is shown has the key that it is kept under.
use Rattle.std.proofs.Common.{◌≡◌, inl, inr, ℕ, zero, suc, ◌+◌, ◌-◌, ◌≤◌, ◌<◌, Bool, true, false, ◌&&◌, nat_lt, eqb, List, [], ◌∷◌, length, map, get_or, Option, Some, None, unwrap_or, refl, sym, ap, ◌∙◌, arith}
use Rattle.std.specs.Prelude.{count_by, find, slice_index_or}
use Rattle.std.specs.List.{zip, filter_map}
use Rattle.std.specs.Option.{option_map, option_map_or}
use Rattle.std.proofs.lemmas.Bool.{eqb-true}
use Rattle.cr_value.specs.declared.value.Value.{Value}
use Rattle.cr_value.specs.declared.value.Value.TheVariants.{Null}
use Rattle.cr_value.specs.Packing.{packed}
use Rattle.cr_value.specs.Unpacking.{unpacked}
use Rattle.cr_lattice.specs.declared.change.Change.{Change}
use Rattle.cr_lattice.specs.declared.table.ColumnDef.{ColumnDef}
use Rattle.cr_lattice.specs.declared.table.TableDef.{TableDef}
use Rattle.cr_lattice.specs.Check.{same_bytes, stands_at, key_fits, are_key_values, is_key}
use Rattle.cr_lattice.specs.Profile.{key_count, places_once, has_key}
use Rattle.cr_lattice.specs.Rows.{column_value, cell, row}
use Rattle.cr_lattice.proofs.Tested.{and_true, split}
use Rattle.cr_delta.specs.Key.{key_part, key_places, key_values, key_of}
use Rattle.cr_delta.proofs.Among.{Among}
use Rattle.cr_delta.proofs.Members.{same_is}
use Rattle.cr_delta.proofs.KeyCells.{count_no, place_once, place_within}
use Rattle.cr_touched.proofs.Unpacked.{Unpacked, unpacked_is}

-- ---- the values that a key spells

-- so many values as the table has key columns, and the key is what they are packed as
pub record Spells (def : TableDef) (pk : List ℕ) (vs : List Value) : Type 0 where
  pub read : unpacked pk ≡ Some vs
  pub count : length vs ≡ key_count def
  pub spelled : packed vs ≡ pk
  pub are : Unpacked pk vs

pub spells : (def : TableDef) (pk : List ℕ) → is_key def pk ≡ true → (vs : List Value) × Spells def pk vs
unfolding is_key
spells def pk is = by (unpacked pk) refl is where
  by : (o : Option (List Value)) → unpacked pk ≡ o → option_map_or (λ vs. are_key_values def vs && same_bytes (packed vs) pk) o false ≡ true → (vs : List Value) × Spells def pk vs
  by None e h = absurd cc
  by (Some vs) e h =
      let both = and_true (are_key_values def vs) (same_bytes (packed vs) pk) h in
      let values = and_true (eqb (length vs) (key_count def)) (key_fits def 1 vs) both.0 in
      (vs, record { read = e; count = eqb-true _ _ values.0; spelled = same_is (packed vs) pk both.1; are = unpacked_is pk vs e })

-- ---- parts, place by place

-- so many numbers from one on
upward : ℕ → ℕ → List ℕ
upward p zero = []
upward p (suc k) = p ∷ upward (p + 1) k

places_are : key_places ≡ upward 1 8
unfolding upward
places_are = refl

parts_are : (f : ℕ → Option Value) (k p : ℕ) (vs : List Value) → length vs ≤ k
    → ((i : ℕ) → i < length vs → f (p + i) ≡ Some (get_or vs i Null)) → ((i : ℕ) → length vs ≤ i → f (p + i) ≡ None)
    → filter_map f (upward p k) ≡ vs
unfolding upward
parts_are f zero p [] fits some none = refl
parts_are f zero p (v ∷ vs) fits some none = absurd (omega (arith, fits))
parts_are f (suc k) p [] fits some none =
    let at : p + 0 ≡ p = omega arith in
    let here : f p ≡ None = ap f (sym at) ∙ none 0 (omega arith) in
    rw here (parts_are f k (p + 1) [] (omega arith) (λ i lt. absurd (omega (arith, lt)))
    (λ i le. (let next : p + 1 + i ≡ p + suc i = omega arith in ap f next ∙ none (suc i) (omega arith))))
parts_are f (suc k) p (v ∷ vs) fits some none =
    let at : p + 0 ≡ p = omega arith in
    let here : f p ≡ Some v = ap f (sym at) ∙ some 0 (omega arith) in
    rw here (ap (λ ws. v ∷ ws) (parts_are f k (p + 1) vs (omega (arith, fits))
    (λ i lt. (let next : p + 1 + i ≡ p + suc i = omega arith in ap f next ∙ some (suc i) (omega (arith, lt))))
    (λ i le. (let next : p + 1 + i ≡ p + suc i = omega arith in ap f next ∙ none (suc i) (omega (arith, le))))))

-- ---- the column at a place

some_is : {A : Type 0} (a b : A) → Some a ≡ Some b → a ≡ b
some_is a b e = cc

found_is : {A : Type 0} (p : A → Bool) (xs : List A) (a : A) → find p xs ≡ Some a → Among xs a × (p a ≡ true)
found_is p [] a e = absurd cc
found_is p (x ∷ xs) a e =
    elim (split (p x)) [
      | inl so ↦ (let here : x ≡ a = some_is x a (rw so at e) in (inl (sym here), ap p (sym here) ∙ so))
      | inr not_so ↦ (let r = found_is p xs a (rw not_so at e) in (inr r.0, r.1))
    ]

found_later : (p : ColumnDef → Bool) (x : ColumnDef) (xs : List ColumnDef) (a : ColumnDef) → p x ≡ false → find p xs ≡ Some a → find p (x ∷ xs) ≡ Some a
found_later p x xs a not_so e = rw not_so e

found_some : (p : ColumnDef → Bool) (xs : List ColumnDef) → 1 ≤ count_by p xs → (a : ColumnDef) × (find p xs ≡ Some a)
found_some p [] some = absurd (omega (arith, some))
found_some p (x ∷ xs) some =
    elim (split (p x)) [
      | inl so ↦ (x, rw so refl)
      | inr not_so ↦ (let c = count_no p x xs not_so in let r = found_some p xs (omega (arith, some, c)) in (r.0, found_later p x xs r.0 not_so r.1))
    ]

found_cell : (g : ColumnDef → Value) (p : ColumnDef → Bool) (cols : List ColumnDef) → find (λ x. p x.0) (zip cols (map g cols)) ≡ option_map (λ col. (col, g col)) (find p cols)
found_cell g p [] = refl
found_cell g p (col ∷ cols) =
    elim (split (p col)) [
      | inl so ↦ rw so refl
      | inr not_so ↦ rw not_so (found_cell g p cols)
    ]

stands_key : (k : Option ℕ) (p : ℕ) → option_map_or (λ q. eqb q p) k false ≡ true → k ≡ Some p
stands_key None p e = absurd cc
stands_key (Some q) p e = ap Some (eqb-true q p e)

-- ---- the row of a key

module _ (def : TableDef) (keyed : has_key def ≡ true) (kept : List Change) (pk : List ℕ) (vs : List Value) (s : Spells def pk vs) where
  -- a key column shows its value of the key
  pub key_cell : (col : ColumnDef) (place : ℕ) → col.key ≡ Some place → cell kept def.name pk col ≡ get_or vs (place - 1) Null
  key_cell col place at =
      ap (λ k. option_map_or (λ place. slice_index_or (unwrap_or (unpacked pk) []) (place - 1) Null) k (column_value kept def.name pk col)) at
      ∙ ap (λ (o : Option (List Value)). slice_index_or (unwrap_or o []) (place - 1) Null) s.read

  part_of : (place : ℕ) → key_part def (row kept def pk) place ≡ option_map (cell kept def.name pk) (find (stands_at place) def.columns)
  unfolding key_part row
  part_of place = ap (option_map (λ x. x.1)) (found_cell (cell kept def.name pk) (stands_at place) def.columns) ∙ twice (find (stands_at place) def.columns) where
    twice : (o : Option ColumnDef) → option_map (λ (x : ColumnDef × Value). x.1) (option_map (λ col. (col, cell kept def.name pk col)) o) ≡ option_map (cell kept def.name pk) o
    twice None = refl
    twice (Some col) = refl

  some_part : (i : ℕ) → i < length vs → key_part def (row kept def pk) (1 + i) ≡ Some (get_or vs i Null)
  unfolding has_key
  some_part i lt =
      let count = s.count in
      let before : 1 + i - 1 ≡ i = omega arith in
      let low : 1 ≤ 1 + i = omega arith in
      let high : 1 + i ≤ key_count def = omega (arith, lt, count) in
      let once = (and_true (nat_lt 0 (key_count def)) (places_once def (key_count def)) keyed).1 in
      let one : count_by (stands_at (1 + i)) def.columns ≡ 1 = place_once def (key_count def) (1 + i) once low high in
      let some : 1 ≤ count_by (stands_at (1 + i)) def.columns = omega (arith, one) in
      let f = found_some (stands_at (1 + i)) def.columns some in
      let m = found_is (stands_at (1 + i)) def.columns f.0 f.1 in
      part_of (1 + i)
      ∙ ap (option_map (cell kept def.name pk)) f.1
      ∙ ap Some (key_cell f.0 (1 + i) (stands_key f.0.key (1 + i) m.1))
      ∙ ap (λ n. Some (get_or vs n Null)) before

  no_part : (i : ℕ) → length vs ≤ i → key_part def (row kept def pk) (1 + i) ≡ None
  no_part i le = part_of (1 + i) ∙ by (find (stands_at (1 + i)) def.columns) refl where
    by : (o : Option ColumnDef) → find (stands_at (1 + i)) def.columns ≡ o → option_map (cell kept def.name pk) o ≡ None
    by None e = refl
    by (Some col) e =
        let m = found_is (stands_at (1 + i)) def.columns col e in
        let w = place_within def col (1 + i) keyed m.0 (stands_key col.key (1 + i) m.1) in
        let count = s.count in
        absurd (omega (arith, le, count, w.1))

  values_are : key_values def (row kept def pk) ≡ vs
  unfolding key_values
  values_are =
      ap (filter_map (key_part def (row kept def pk))) places_are
      ∙ parts_are (key_part def (row kept def pk)) 8 1 vs s.are.few some_part no_part

  pub key_is : key_of def (row kept def pk) ≡ pk
  unfolding key_of
  key_is = ap packed values_are ∙ s.spelled
