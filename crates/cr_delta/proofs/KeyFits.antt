-- The packed key of a row of the table is a key of the table.
use Rattle.std.proofs.Common.{◌≡◌, inl, inr, ℕ, zero, suc, ◌+◌, ◌≤◌, ◌<◌, Bool, true, false, ◌&&◌, eqb, List, [], ◌∷◌, length, Option, Some, None, refl, sym, ap, subst, ◌∙◌, arith}
use Rattle.std.specs.Prelude.{count_by, find}
use Rattle.std.specs.List.{zip, filter_map}
use Rattle.std.specs.Option.{option_map, option_map_or}
use Rattle.std.proofs.lemmas.Bool.{cases_lt, eqb-true, eq-eqb}
use Rattle.cr_value.specs.declared.value.Value.{Value}
use Rattle.cr_value.specs.Packing.{packed}
use Rattle.cr_value.specs.Unpacking.{unpacked}
use Rattle.cr_value.proofs.Fields.{unpacked_again}
use Rattle.cr_lattice.specs.declared.table.ColumnDef.{ColumnDef}
use Rattle.cr_lattice.specs.declared.table.TableDef.{TableDef}
use Rattle.cr_lattice.specs.Check.{same_bytes, stands_at, key_affinity, is_fixed, key_fits, is_key}
use Rattle.cr_lattice.specs.Profile.{key_count, places_once, has_key}
use Rattle.cr_delta.specs.Key.{cells_of, key_part, key_places, key_values, key_of}
use Rattle.cr_delta.specs.Wanted.{may_hold, IsRowOf, IsWritable}
use Rattle.cr_delta.proofs.Among.{split, and_true, Among, member_has}
use Rattle.cr_delta.proofs.Members.{is_same}
use Rattle.cr_delta.proofs.Cells.{column_of}
use Rattle.cr_delta.proofs.KeyCells.{count_no, place_within, place_once}

-- so many numbers from one on
upward : ℕ → ℕ → List ℕ
upward p zero = []
upward p (suc k) = p ∷ upward (p + 1) k

places_are : key_places ≡ upward 1 8
unfolding upward
places_are = refl

stands_key : (k : Option ℕ) (p : ℕ) → option_map_or (λ q. eqb q p) k false ≡ true → k ≡ Some p
stands_key None p e = absurd cc
stands_key (Some q) p e = ap Some (eqb-true q p e)

find_missing : {A : Type 0} (q : A → Bool) (xs : List A) → ((x : A) → Among xs x → q x ≡ false) → find q xs ≡ None
find_missing q [] f = refl
find_missing q (x ∷ xs) f = let no = f x (inl refl) in rw no (find_missing q xs (λ y m. f y (inr m)))

-- the cell and the column that stand at a place
record Standing (cols : List ColumnDef) (row : List Value) (p : ℕ) (cell : ColumnDef × Value) : Type 0 where
  member : Among (zip cols row) cell
  cell_is : find (λ x. stands_at p x.0) (zip cols row) ≡ Some cell
  column_is : find (stands_at p) cols ≡ Some cell.0

standing_here : (col : ColumnDef) (cols : List ColumnDef) (v : Value) (vs : List Value) (p : ℕ) → stands_at p col ≡ true → Standing (col ∷ cols) (v ∷ vs) p (col, v)
standing_here col cols v vs p e = record { member = inl refl; cell_is = rw e refl; column_is = rw e refl }

standing_later : (col : ColumnDef) (cols : List ColumnDef) (v : Value) (vs : List Value) (p : ℕ) (cell : ColumnDef × Value) → stands_at p col ≡ false → Standing cols vs p cell → Standing (col ∷ cols) (v ∷ vs) p cell
standing_later col cols v vs p cell e s = record { member = inr s.member; cell_is = rw e s.cell_is; column_is = rw e s.column_is }

standing : (cols : List ColumnDef) (row : List Value) (p : ℕ) → length row ≡ length cols → 1 ≤ count_by (stands_at p) cols → (cell : ColumnDef × Value) × Standing cols row p cell
standing [] row p width some = absurd (omega (arith, some))
standing (col ∷ cols) [] p width some = absurd (omega arith)
standing (col ∷ cols) (v ∷ vs) p width some =
    elim (split (stands_at p col)) [
      | inl so ↦ ((col, v), standing_here col cols v vs p so)
      | inr not_so ↦ (
          let c = count_no (stands_at p) col cols not_so in
          let r = standing cols vs p (omega arith) (omega (arith, some, c)) in
          (r.0, standing_later col cols v vs p r.0 not_so r.1))
    ]

module _ (def : TableDef) (row : List Value) (profile : IsWritable def) (r : IsRowOf def row) where
  abbrev n : ℕ
  n = key_count def

  once : places_once def (key_count def) ≡ true
  unfolding has_key
  once = (and_true _ _ profile.key).1

  some_part : (p : ℕ) → 1 ≤ p → p ≤ n → (v : Value) × (key_part def row p ≡ Some v) × (is_fixed (key_affinity def p) v ≡ true)
  unfolding key_part key_affinity
  some_part p low high =
      let one = place_once def n p once low high in
      let s = standing def.columns row p r.width (omega (arith, one)) in
      let held = member_has (λ x. may_hold x.0 x.1 ≡ true) (cells_of def row) s.0 r.cells s.1.member in
      let found = s.1.column_is in
      (s.0.1, ap (option_map (λ x. x.1)) s.1.cell_is, rw found (and_true _ _ held).0)

  no_part : (p : ℕ) → n < p → key_part def row p ≡ None
  unfolding key_part
  no_part p above =
      ap (option_map (λ x. x.1)) (find_missing (λ x. stands_at p x.0) (cells_of def row) (λ x m.
      elim (split (stands_at p x.0)) [
        | inl so ↦ (
            let within = place_within def x.0 p profile.key (column_of def.columns row x m) (stands_key x.0.key p so) in
            absurd (omega (arith, within.1, above)))
        | inr not_so ↦ not_so
      ]))

  no_parts : (k p : ℕ) → n < p → filter_map (key_part def row) (upward p k) ≡ []
  unfolding upward
  no_parts zero p above = refl
  no_parts (suc k) p above = let none = no_part p above in rw none (no_parts k (p + 1) (omega (arith, above)))

  -- the parts from a place on are as many as the key has places from there on, and each fits
  record Parts (p : ℕ) (vs : List Value) : Type 0 where
    count : length vs + p ≡ n + 1
    fit : key_fits def p vs ≡ true

  parts_end : (p : ℕ) → p ≡ n + 1 → Parts p []
  unfolding key_fits
  parts_end p e = record { count = omega (arith, e); fit = refl }

  parts_more : (p : ℕ) (v : Value) (vs : List Value) → is_fixed (key_affinity def p) v ≡ true → Parts (p + 1) vs → Parts p (v ∷ vs)
  unfolding key_fits
  parts_more p v vs e q = record { count = (let c = q.count in omega (arith, c)); fit = rw (e, q.fit) refl }

  parts : (k p : ℕ) → 1 ≤ p → p ≤ n + 1 → n < p + k → Parts p (filter_map (key_part def row) (upward p k))
  unfolding upward
  parts zero p low high enough = parts_end p (omega (arith, high, enough))
  parts (suc k) p low high enough =
      elim (cases_lt n p) [
        | inl above ↦ (let none = no_parts (suc k) p above in rw none (parts_end p (omega (arith, high, above))))
        | inr within ↦ (
            let s = some_part p low within in
            let found = s.1 in
            rw found (parts_more p s.0 _ s.2 (parts k (p + 1) (omega arith) (omega (arith, within)) (omega (arith, enough)))))
      ]

  pub key_is : is_key def (key_of def row) ≡ true
  unfolding is_key key_values
  key_is =
      let few = profile.few in
      let all : Parts 1 (filter_map (key_part def row) key_places) = subst (λ ps. Parts 1 (filter_map (key_part def row) ps)) (sym places_are) (parts 8 1 (omega arith) (omega arith) (omega (arith, few))) in
      let count : length (filter_map (key_part def row) key_places) ≡ n = (let c = all.count in omega (arith, c)) in
      let read : unpacked (key_of def row) ≡ Some (key_values def row) = unpacked_again (key_of def row) (key_values def row) r.key in
      let same : same_bytes (packed (key_values def row)) (key_of def row) ≡ true = is_same _ _ (sym r.key.spelled) in
      ap (λ found. option_map_or (λ vs. (eqb (length vs) (key_count def) && key_fits def 1 vs) && same_bytes (packed vs) (key_of def row)) found false) read
      ∙ rw (all.fit, same) (ap (λ b. (b && true) && true) (eq-eqb _ _ count))
