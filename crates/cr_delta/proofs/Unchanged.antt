-- Rows that are shown already have no changes.
use Rattle.std.proofs.Common.{◌≡◌, inl, inr, ℕ, true, false, not, ◌&&◌, List, [], ◌∷◌, ◌++◌, map, Option, Some, None, is_some, refl, sym, ap, subst, ◌∙◌}
use Rattle.std.specs.List.{list_any, zip}
use Rattle.std.specs.Ordering.{is_eq, eq_by_cmp}
use Rattle.std.proofs.lemmas.Cmp.{tied_itself}
use Rattle.cr_value.specs.declared.value.Value.{Value}
use Rattle.cr_value.specs.Order.{bytes_cmp, value_cmp}
use Rattle.cr_value.specs.OrderLaws.{value_total}
use Rattle.cr_lattice.specs.declared.change.Change.{Change}
use Rattle.cr_lattice.specs.declared.table.ColumnDef.{ColumnDef}
use Rattle.cr_lattice.specs.declared.table.TableDef.{TableDef}
use Rattle.cr_lattice.specs.Change.{change_cmp}
use Rattle.cr_lattice.specs.Sets.{set_of}
use Rattle.cr_lattice.specs.Keep.{keep}
use Rattle.cr_lattice.specs.Rows.{is_alive, is_present, alive_keys, cell, column_value, row, rows}
use Rattle.cr_delta.specs.Key.{key_of}
use Rattle.cr_delta.specs.Delta.{value_cells, differs, is_wanted, row_change, row_delta, update, removals, delta}
use Rattle.cr_delta.specs.Wanted.{DeltaOfShownIsEmpty}
use Rattle.cr_delta.proofs.Among.{split, and_true, Among, Among-map, map_member, In_Among, any_member, member_of_any}
use Rattle.cr_delta.proofs.Cells.{cell_of_value}
use Rattle.cr_delta.proofs.KeptRows.{alive_by}
use Rattle.cr_delta.proofs.Members.{same_is, is_same, wanted_from, row_delta_stays}
use Rattle.cr_delta.proofs.Once.{filter_none, flat_map_none}
use Rattle.cr_delta.proofs.Shows.{has_alive_key}

-- the heads and the rests of equal lists are equal
head_of : {A : Type 0} (d : A) → List A → A
head_of d [] = d
head_of d (x ∷ xs) = x

rest_of : {A : Type 0} → List A → List A
rest_of [] = []
rest_of (x ∷ xs) = xs

-- rows that are what their keys show
each_shows : (key : List Value → List ℕ) (show : List ℕ → List Value) (ws : List (List Value)) → map show (map key ws) ≡ ws → (r : List Value) → Among ws r → show (key r) ≡ r
unfolding head_of rest_of
each_shows key show [] e r m = absurd m
each_shows key show (w ∷ ws) e r m =
    elim m [
      | inl here ↦ subst (λ q. show (key q) ≡ q) (sym here) (ap (head_of []) e)
      | inr there ↦ each_shows key show ws (ap rest_of e) r there
    ]

-- a cell of a row that a function of the columns gives
cell_is : (f : ColumnDef → Value) (cols : List ColumnDef) (x : ColumnDef × Value) → Among (zip cols (map f cols)) x → x.1 ≡ f x.0
cell_is f [] x m = absurd m
cell_is f (col ∷ cols) x m = elim m [ inl here ↦ ap (λ (y : ColumnDef × Value). y.1) here ∙ ap (λ (y : ColumnDef × Value). f y.0) (sym here) | inr there ↦ cell_is f cols x there ]

no_key : (k : Option ℕ) → is_some k ≡ false → k ≡ None
no_key None e = refl
no_key (Some p) e = absurd cc

module _ (def : TableDef) (site : List ℕ) (s : List Change) (wanted : List (List Value)) (keys : alive_keys (keep s) def.name ≡ map (key_of def) wanted) (shown : rows (keep s) def ≡ wanted) where
  row_shows : (r : List Value) → Among wanted r → row (keep s) def (key_of def r) ≡ r
  unfolding rows
  row_shows r m = each_shows (key_of def) (row (keep s) def) wanted (ap (map (row (keep s) def)) (sym keys) ∙ shown) r m

  row_alive : (r : List Value) → Among wanted r → is_alive (keep s) def.name (key_of def r) ≡ true
  row_alive r m =
      let pk = key_of def r in
      sym (has_alive_key (keep s) def.name pk)
      ∙ ap (list_any (eq_by_cmp bytes_cmp pk)) keys
      ∙ any_member (eq_by_cmp bytes_cmp pk) (map (key_of def) wanted) pk (map_member (key_of def) wanted r m) (is_same pk pk refl)

  same_cell : (r : List Value) → Among wanted r → (x : ColumnDef × Value) → Among (value_cells def r) x → differs (keep s) def.name (key_of def r) x ≡ false
  unfolding row
  same_cell r m x i =
      let pk = key_of def r in
      let v = cell_of_value def r x i in
      let at = subst (λ vs. Among (zip def.columns vs) x) (sym (row_shows r m)) v.0 in
      let is = cell_is (cell (keep s) def.name pk) def.columns x at in
      let none = no_key x.0.key v.1 in
      let value : x.1 ≡ column_value (keep s) def.name pk x.0 = is ∙ rw none refl in
      ap (λ y. not (is_eq (value_cmp x.1 y))) (sym value) ∙ ap (λ o. not (is_eq o)) (tied_itself value_total x.1)

  no_update : (r : List Value) → Among wanted r → row_delta def site (keep s) (key_of def r) r ≡ []
  unfolding update
  no_update r m =
      row_delta_stays def site (keep s) (key_of def r) r (row_alive r m)
      ∙ ap (map _) (filter_none (differs (keep s) def.name (key_of def r)) (value_cells def r) (same_cell r m))

  wanted_alive : (pk : List ℕ) → is_alive (keep s) def.name pk ≡ true → is_wanted def wanted pk ≡ true
  wanted_alive pk alive =
      let k = member_of_any (eq_by_cmp bytes_cmp pk) (map (key_of def) wanted) (ap (list_any (eq_by_cmp bytes_cmp pk)) (sym keys) ∙ has_alive_key (keep s) def.name pk ∙ alive) in
      let r = Among-map (key_of def) wanted k.0 k.1 in
      wanted_from def wanted r.0 pk r.1 (sym (same_is pk k.0 k.2 ∙ r.2))

  no_removal : removals def site (keep s) wanted ≡ []
  unfolding removals
  no_removal =
      ap (map (λ c. row_change def site c.pk _)) (filter_none (λ c. is_present def.name c && not (is_wanted def wanted c.pk)) (keep s) (λ c m.
      elim (split (is_present def.name c)) [
        | inl here ↦ (
            let p = and_true _ _ here in
            let alive = alive_by s def.name c.pk c (In_Among (keep s) c m) (record { table_is = same_is c.table def.name p.0; pk_is = refl }) p.1 in
            rw (here, wanted_alive c.pk alive) refl)
        | inr other ↦ rw other refl
      ]))

  no_change : delta def site (keep s) wanted ≡ []
  unfolding delta
  no_change =
      ap (set_of change_cmp) (ap (λ cs. cs ++ removals def site (keep s) wanted) (flat_map_none (λ r. row_delta def site (keep s) (key_of def r) r) wanted no_update) ∙ no_removal)

pub delta_of_shown_is_empty : DeltaOfShownIsEmpty
delta_of_shown_is_empty def site s wanted keys shown = no_change def site s wanted keys shown
