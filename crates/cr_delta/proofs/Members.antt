-- Which changes a delta has, by their keys.
use Rattle.std.proofs.Common.{◌≡◌, ◌⊎◌, inl, inr, ℕ, ℤ, pos, Bool, true, false, not, ◌&&◌, List, [], ◌∷◌, map, refl, sym, ap, ◌∙◌, Ordering, Less, Equal, Greater}
use Rattle.std.specs.Prelude.{◌+ℤ◌, filter}
use Rattle.std.specs.List.{flat_map, AllByRecursion}
use Rattle.std.specs.List.Sorted.{IsStrictlySortedBy}
use Rattle.std.specs.Ordering.{is_eq}
use Rattle.std.proofs.lemmas.Cmp.{tied_itself}
use Rattle.cr_value.specs.declared.value.Value.{Value}
use Rattle.cr_value.specs.Order.{bytes_cmp}
use Rattle.cr_value.specs.OrderLaws.{bytes_total, bytes_exact}
use Rattle.cr_lattice.specs.declared.change.Change.{Change}
use Rattle.cr_lattice.specs.declared.table.ColumnDef.{ColumnDef}
use Rattle.cr_lattice.specs.declared.table.TableDef.{TableDef}
use Rattle.cr_lattice.specs.Check.{same_bytes}
use Rattle.cr_lattice.specs.Rows.{is_alive, is_present}
use Rattle.cr_lattice.proofs.KeepLaws.{In}
use Rattle.cr_delta.specs.Key.{key_of}
use Rattle.cr_delta.specs.Delta.{length_of, version_of, value_cells, differs, is_wanted, row_change, column_change, arrival, update, row_delta, removals, delta}
use Rattle.cr_delta.proofs.Among.{and_true, Among, Among-map, map_member, Among-filter, filter_member, Among-append, append_left, append_right, Among-flat_map, flat_map_member, any_member, member_of_any, In_Among, Among_In, in_set, of_set}

pub eq_true : (o : Ordering) → is_eq o ≡ true → o ≡ Equal
eq_true Less e = absurd cc
eq_true Equal e = refl
eq_true Greater e = absurd cc

pub not_true : (b : Bool) → not b ≡ true → b ≡ false
not_true true e = absurd cc
not_true false e = refl

pub same_is : (x y : List ℕ) → same_bytes x y ≡ true → x ≡ y
same_is x y e = bytes_exact x y (eq_true _ e)

pub is_same : (x y : List ℕ) → x ≡ y → same_bytes x y ≡ true
is_same x y e = rw (e, tied_itself bytes_total y) refl

-- ---- wanted rows

pub wanted_from : (def : TableDef) (wanted : List (List Value)) (row : List Value) (pk : List ℕ) → Among wanted row → key_of def row ≡ pk → is_wanted def wanted pk ≡ true
unfolding is_wanted
wanted_from def wanted row pk m e = any_member _ wanted row m (is_same _ _ e)

pub wanted_gives : (def : TableDef) (wanted : List (List Value)) (pk : List ℕ) → is_wanted def wanted pk ≡ true → (row : List Value) × Among wanted row × (key_of def row ≡ pk)
unfolding is_wanted
wanted_gives def wanted pk e = let r = member_of_any _ wanted e in (r.0, r.1, same_is _ _ r.2)

-- rows in the order of their keys with one key are one row
pub one_row : (def : TableDef) (wanted : List (List Value)) (r q : List Value) → IsStrictlySortedBy bytes_cmp (map (key_of def) wanted) → Among wanted r → Among wanted q → key_of def r ≡ key_of def q → r ≡ q
unfolding IsStrictlySortedBy
one_row def [] r q s m n e = absurd m
one_row def (x ∷ xs) r q s m n e =
    let apart : (y : List Value) → Among xs y → key_of def x ≡ key_of def y → ⊥ = λ y in_xs same. (
    let less = below (key_of def x) (map (key_of def) xs) (key_of def y) s.0 (map_member (key_of def) xs y in_xs) in
    let tie : bytes_cmp (key_of def x) (key_of def y) ≡ Equal = rw same (tied_itself bytes_total (key_of def y)) in
    absurd cc) in
    elim m [
      | inl here ↦ elim n [
        | inl here' ↦ here ∙ sym here'
        | inr there' ↦ absurd (apart q there' (ap (key_of def) (sym here) ∙ e))
      ]
      | inr there ↦ elim n [
        | inl here' ↦ absurd (apart r there (ap (key_of def) (sym here') ∙ sym e))
        | inr there' ↦ one_row def xs r q s.1 there there' e
      ]
    ]
  where
    below : (x : List ℕ) (ks : List (List ℕ)) (k : List ℕ) → AllByRecursion (λ y. bytes_cmp x y ≡ Less) ks → Among ks k → bytes_cmp x k ≡ Less
    below x [] k all m = absurd m
    below x (y ∷ ys) k all m = elim m [ inl here ↦ rw here all.0 | inr there ↦ below x ys k all.1 there ]

module _ (def : TableDef) (site : List ℕ) (kept : List Change) where
  -- ---- the changes at one key

  pub of_arrival : (pk : List ℕ) (cl : ℤ) (row : List Value) (c : Change) → Among (arrival def site pk cl row) c
      → (c ≡ row_change def site pk cl) ⊎ ((cell : ColumnDef × Value) × Among (value_cells def row) cell × (c ≡ column_change def site pk cl cell (pos 1)))
  unfolding arrival
  of_arrival pk cl row c m = elim m [ inl here ↦ inl here | inr there ↦ inr (Among-map _ (value_cells def row) c there) ]

  pub arrival_row : (pk : List ℕ) (cl : ℤ) (row : List Value) → Among (arrival def site pk cl row) (row_change def site pk cl)
  unfolding arrival
  arrival_row pk cl row = inl refl

  pub arrival_column : (pk : List ℕ) (cl : ℤ) (row : List Value) (cell : ColumnDef × Value) → Among (value_cells def row) cell → Among (arrival def site pk cl row) (column_change def site pk cl cell (pos 1))
  unfolding arrival
  arrival_column pk cl row cell m = inr (map_member (λ x. column_change def site pk cl x (pos 1)) (value_cells def row) cell m)

  -- what an update says of a column
  abbrev pub updated : List ℕ → ColumnDef × Value → Change
  updated pk cell = column_change def site pk (length_of kept def.name pk) cell (version_of kept def.name pk cell.0.name +ℤ pos 1)

  pub of_update : (pk : List ℕ) (row : List Value) (c : Change) → Among (update def site kept pk row) c
      → (cell : ColumnDef × Value) × Among (value_cells def row) cell × (differs kept def.name pk cell ≡ true) × (c ≡ updated pk cell)
  unfolding update
  of_update pk row c m =
      let r = Among-map _ (filter (differs kept def.name pk) (value_cells def row)) c m in
      let f = Among-filter (differs kept def.name pk) (value_cells def row) r.0 r.1 in
      (r.0, f.0, f.1, r.2)

  pub update_column : (pk : List ℕ) (row : List Value) (cell : ColumnDef × Value) → Among (value_cells def row) cell → differs kept def.name pk cell ≡ true → Among (update def site kept pk row) (updated pk cell)
  unfolding update
  update_column pk row cell m e =
      map_member (λ x. column_change def site pk (length_of kept def.name pk) x (version_of kept def.name pk x.0.name +ℤ pos 1)) _ cell
      (filter_member (differs kept def.name pk) (value_cells def row) cell m e)

  pub row_delta_stays : (pk : List ℕ) (row : List Value) → is_alive kept def.name pk ≡ true → row_delta def site kept pk row ≡ update def site kept pk row
  unfolding row_delta
  row_delta_stays pk row e = rw e refl

  pub row_delta_comes : (pk : List ℕ) (row : List Value) → is_alive kept def.name pk ≡ false → row_delta def site kept pk row ≡ arrival def site pk (length_of kept def.name pk +ℤ pos 1) row
  unfolding row_delta
  row_delta_comes pk row e = rw e refl

  -- ---- all changes

  -- a kept change of a row that goes
  pub record Goes (wanted : List (List Value)) (d : Change) : Type 0 where
    pub member : In kept d
    pub table : d.table ≡ def.name
    pub present : is_present def.name d ≡ true
    pub unwanted : is_wanted def wanted d.pk ≡ false

  abbrev pub ByRow : List (List Value) → Change → Type 0
  ByRow wanted c = (row : List Value) × Among wanted row × Among (row_delta def site kept (key_of def row) row) c

  abbrev pub ByRemoval : List (List Value) → Change → Type 0
  ByRemoval wanted c = (d : Change) × Goes wanted d × (c ≡ row_change def site d.pk (d.cl +ℤ pos 1))

  pub of_delta : (wanted : List (List Value)) (c : Change) → In (delta def site kept wanted) c → ByRow wanted c ⊎ ByRemoval wanted c
  unfolding delta removals
  of_delta wanted c e =
      elim (Among-append (flat_map (λ row. row_delta def site kept (key_of def row) row) wanted) (removals def site kept wanted) c (of_set _ c e)) [
        | inl l ↦ inl (Among-flat_map (λ row. row_delta def site kept (key_of def row) row) wanted c l)
        | inr r ↦ (
            let m = Among-map _ (filter (λ d. is_present def.name d && not (is_wanted def wanted d.pk)) kept) c r in
            let f = Among-filter (λ d. is_present def.name d && not (is_wanted def wanted d.pk)) kept m.0 m.1 in
            let p = and_true _ _ f.1 in
            inr (
              m.0,
              record {
                member = In_Among kept m.0 f.0;
                table = same_is _ _ (and_true _ _ p.0).0;
                present = p.0;
                unwanted = not_true _ p.1;
              },
              m.2,
            ))
      ]

  pub delta_row : (wanted : List (List Value)) (row : List Value) (c : Change) → Among wanted row → Among (row_delta def site kept (key_of def row) row) c → In (delta def site kept wanted) c
  unfolding delta
  delta_row wanted row c m n = in_set _ c (append_left _ _ c (flat_map_member (λ row. row_delta def site kept (key_of def row) row) wanted row c m n))

  pub delta_removal : (wanted : List (List Value)) (d : Change) → In kept d → is_present def.name d ≡ true → is_wanted def wanted d.pk ≡ false → In (delta def site kept wanted) (row_change def site d.pk (d.cl +ℤ pos 1))
  unfolding delta removals
  delta_removal wanted d k p w =
      in_set _ _ (append_right (flat_map (λ row. row_delta def site kept (key_of def row) row) wanted) _ _
      (map_member (λ c. row_change def site c.pk (c.cl +ℤ pos 1)) _ d
      (filter_member (λ c. is_present def.name c && not (is_wanted def wanted c.pk)) kept d (Among_In kept d k) (rw (p, w) refl))))
