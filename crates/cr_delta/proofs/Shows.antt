-- The law of a write: it shows the rows that are wanted.
use Rattle.std.proofs.Common.{◌≡◌, ◌⊎◌, inl, inr, ℕ, Bool, true, false, ◌&&◌, List, [], ◌∷◌, ◌++◌, map, length, Option, Some, None, refl, sym, ap, ◌∙◌, arith}
use Rattle.std.specs.Prelude.{filter}
use Rattle.std.specs.List.{list_any, zip}
use Rattle.std.specs.List.Sorted.{IsStrictlySortedBy}
use Rattle.std.specs.Ordering.{eq_by_cmp}
use Rattle.cr_value.specs.declared.value.Value.{Value}
use Rattle.cr_value.specs.Order.{bytes_cmp}
use Rattle.cr_value.specs.OrderLaws.{bytes_total, bytes_exact}
use Rattle.cr_lattice.specs.declared.change.Change.{Change}
use Rattle.cr_lattice.specs.declared.table.ColumnDef.{ColumnDef}
use Rattle.cr_lattice.specs.declared.table.TableDef.{TableDef}
use Rattle.cr_lattice.specs.Check.{same_bytes, is_odd}
use Rattle.cr_lattice.specs.Keep.{keep}
use Rattle.cr_lattice.specs.Rows.{is_alive, is_of_row, is_present, alive_keys, cell, row, rows}
use Rattle.cr_lattice.proofs.SortedSets.{list_any-set_of, IsStrictlySortedBy-set_of, same_sorted}
use Rattle.cr_delta.specs.Key.{cells_of, key_of}
use Rattle.cr_delta.specs.Wanted.{may_hold, IsRowOf, IsWritable, AreWanted, DeltaShowsWanted}
use Rattle.cr_delta.proofs.Among.{and_true, Among, Among-map, map_member, Among-filter, filter_member, any_member, member_of_any, member_has}
use Rattle.cr_delta.proofs.Cells.{value_cell}
use Rattle.cr_delta.proofs.KeyCells.{key_cell}
use Rattle.cr_delta.proofs.Members.{same_is, is_same, wanted_gives}
use Rattle.cr_delta.proofs.Presence.{written, wanted_is_present, present_is_wanted}
use Rattle.cr_delta.proofs.Columns.{shows}

pub both_ways : (s t : Bool) → (s ≡ true → t ≡ true) → (t ≡ true → s ≡ true) → s ≡ t
both_ways true t f g = sym (f refl)
both_ways false true f g = g refl
both_ways false false f g = refl

-- a key is among those of the rows that are present where its row is present
pub has_alive_key : (kept : List Change) (table pk : List ℕ) → list_any (eq_by_cmp bytes_cmp pk) (alive_keys kept table) ≡ is_alive kept table pk
unfolding alive_keys is_alive
has_alive_key kept table pk =
    list_any-set_of bytes_total bytes_exact (eq_by_cmp bytes_cmp pk) (map (λ c. c.pk) (filter (is_present table) kept))
    ∙ both_ways _ _
    (λ e. (
    let k = member_of_any (eq_by_cmp bytes_cmp pk) (map (λ c. c.pk) (filter (is_present table) kept)) e in
    let c = Among-map (λ c. c.pk) (filter (is_present table) kept) k.0 k.1 in
    let f = Among-filter (is_present table) kept c.0 c.1 in
    let p = and_true (same_bytes c.0.table table) (is_odd c.0.cl) f.1 in
    any_member (λ c. is_of_row table pk c && is_odd c.cl) kept c.0 f.0 (rw (p.0, is_same c.0.pk pk (sym c.2 ∙ sym (same_is pk k.0 k.2)), p.1) refl)))
    (λ e. (
    let c = member_of_any (λ c. is_of_row table pk c && is_odd c.cl) kept e in
    let p = and_true (is_of_row table pk c.0) (is_odd c.0.cl) c.2 in
    let r = and_true (same_bytes c.0.table table) (same_bytes c.0.pk pk) p.0 in
    any_member (eq_by_cmp bytes_cmp pk) _ c.0.pk (map_member (λ c. c.pk) _ c.0 (filter_member (is_present table) kept c.0 c.1 (rw (r.0, p.1) refl))) (is_same pk c.0.pk (sym (same_is c.0.pk pk r.1)))))

row_of_cells : (kept : List Change) (table pk : List ℕ) (cols : List ColumnDef) (vs : List Value) → length vs ≡ length cols
    → ((x : ColumnDef × Value) → Among (zip cols vs) x → cell kept table pk x.0 ≡ x.1) → map (cell kept table pk) cols ≡ vs
row_of_cells kept table pk [] [] width each = refl
row_of_cells kept table pk [] (v ∷ vs) width each = absurd (omega arith)
row_of_cells kept table pk (col ∷ cols) [] width each = absurd (omega arith)
row_of_cells kept table pk (col ∷ cols) (v ∷ vs) width each =
    let first = each (col, v) (inl refl) in
    let rest = row_of_cells kept table pk cols vs (omega arith) (λ x m. each x (inr m)) in
    λ i. first i ∷ rest i

rows_of_keys : (key : List Value → List ℕ) (show : List ℕ → List Value) (wanted : List (List Value)) → ((r : List Value) → Among wanted r → show (key r) ≡ r) → map show (map key wanted) ≡ wanted
rows_of_keys key show [] each = refl
rows_of_keys key show (r ∷ rs) each =
    let first = each r (inl refl) in
    let rest = rows_of_keys key show rs (λ q m. each q (inr m)) in
    λ i. first i ∷ rest i

some_or_none : (k : Option ℕ) → (k ≡ None) ⊎ ((p : ℕ) × (k ≡ Some p))
some_or_none None = inl refl
some_or_none (Some p) = inr (p, refl)

module _ (def : TableDef) (site : List ℕ) (s : List Change) (wanted : List (List Value)) (profile : IsWritable def) (w : AreWanted def wanted) where
  abbrev after : List Change
  after = keep (s ++ written def site s wanted)

  shows_cell : (r : List Value) → Among wanted r → (x : ColumnDef × Value) → Among (cells_of def r) x → cell after def.name (key_of def r) x.0 ≡ x.1
  shows_cell r m x i =
      let fits = member_has (IsRowOf def) wanted r w.rows m in
      elim (some_or_none x.0.key) [
        | inl none ↦ rw none
            (shows def site s wanted w.in_order profile r m x (value_cell def r x i (rw none refl))
            (member_has (λ y. may_hold y.0 y.1 ≡ true) (cells_of def r) x fits.cells i))
        | inr some ↦ rw some.1 (key_cell def r x some.0 profile fits i some.1)
      ]

  shows_row : (r : List Value) → Among wanted r → row after def (key_of def r) ≡ r
  unfolding row
  shows_row r m = row_of_cells after def.name (key_of def r) def.columns r (member_has (IsRowOf def) wanted r w.rows m).width (shows_cell r m)

  has_key_of : (pk : List ℕ) → is_alive after def.name pk ≡ list_any (eq_by_cmp bytes_cmp pk) (map (key_of def) wanted)
  has_key_of pk =
      both_ways _ _
      (λ e. (
      let r = wanted_gives def wanted pk (present_is_wanted def site s wanted pk e) in
      any_member (eq_by_cmp bytes_cmp pk) (map (key_of def) wanted) (key_of def r.0) (map_member (key_of def) wanted r.0 r.1) (is_same pk _ (sym r.2))))
      (λ e. (
      let k = member_of_any (eq_by_cmp bytes_cmp pk) (map (key_of def) wanted) e in
      let r = Among-map (key_of def) wanted k.0 k.1 in
      ap (is_alive after def.name) (same_is pk k.0 k.2 ∙ r.2) ∙ wanted_is_present def site s wanted w.in_order r.0 r.1))

  sorted_keys : IsStrictlySortedBy bytes_cmp (alive_keys after def.name)
  unfolding alive_keys
  sorted_keys = IsStrictlySortedBy-set_of bytes_total bytes_exact (map (λ c. c.pk) (filter (is_present def.name) after))

  shows_keys : alive_keys after def.name ≡ map (key_of def) wanted
  shows_keys = same_sorted bytes_total bytes_exact _ _ sorted_keys w.in_order (λ pk. has_alive_key after def.name pk ∙ has_key_of pk)

  shows_rows : rows after def ≡ wanted
  unfolding rows
  shows_rows = ap (map (row after def)) shows_keys ∙ rows_of_keys (key_of def) (row after def) wanted shows_row

pub delta_shows_wanted : DeltaShowsWanted
delta_shows_wanted def site s wanted profile w = shows_rows def site s wanted profile w
