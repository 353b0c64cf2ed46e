-- The same write again has no changes.
use Rattle.std.proofs.Common.{◌≡◌, inl, inr, ℕ, Bool, true, false, not, ◌&&◌, List, [], ◌∷◌, ◌++◌, map, refl, ap, ◌∙◌}
use Rattle.std.specs.Prelude.{filter}
use Rattle.std.specs.List.{flat_map}
use Rattle.std.specs.Ordering.{is_eq}
use Rattle.std.proofs.lemmas.Cmp.{tied_itself}
use Rattle.cr_value.specs.declared.value.Value.{Value}
use Rattle.cr_value.specs.Order.{value_cmp}
use Rattle.cr_value.specs.OrderLaws.{value_total}
use Rattle.cr_lattice.specs.declared.change.Change.{Change}
use Rattle.cr_lattice.specs.declared.table.ColumnDef.{ColumnDef}
use Rattle.cr_lattice.specs.declared.table.TableDef.{TableDef}
use Rattle.cr_lattice.specs.Change.{change_cmp}
use Rattle.cr_lattice.specs.Sets.{set_of}
use Rattle.cr_lattice.specs.Keep.{keep}
use Rattle.cr_lattice.specs.Rows.{is_present}
use Rattle.cr_delta.specs.Key.{key_of}
use Rattle.cr_delta.specs.Delta.{value_cells, differs, is_wanted, row_change, row_delta, update, removals, delta}
use Rattle.cr_delta.specs.Wanted.{may_hold, IsRowOf, IsWritable, AreWanted, DeltaIsOnce}
use Rattle.cr_delta.proofs.Among.{split, and_true, Among, In_Among, member_has}
use Rattle.cr_delta.proofs.Cells.{cell_of_value}
use Rattle.cr_delta.proofs.Columns.{shows}
use Rattle.cr_delta.proofs.KeptRows.{alive_by}
use Rattle.cr_delta.proofs.Members.{same_is, row_delta_stays}
use Rattle.cr_delta.proofs.Presence.{written, wanted_is_present, present_is_wanted}

-- a filter that no member passes keeps nothing
pub filter_none : {A : Type 0} (p : A → Bool) (xs : List A) → ((x : A) → Among xs x → p x ≡ false) → filter p xs ≡ []
filter_none p [] f = refl
filter_none p (x ∷ xs) f = let no = f x (inl refl) in rw no (filter_none p xs (λ y m. f y (inr m)))

pub flat_map_none : {A B : Type 0} (f : A → List B) (xs : List A) → ((x : A) → Among xs x → f x ≡ []) → flat_map f xs ≡ []
flat_map_none f [] none = refl
flat_map_none f (x ∷ xs) none = let no = none x (inl refl) in rw no (flat_map_none f xs (λ y m. none y (inr m)))

module _ (def : TableDef) (site : List ℕ) (s : List Change) (wanted : List (List Value)) (profile : IsWritable def) (w : AreWanted def wanted) where
  abbrev after : List Change
  after = keep (s ++ written def site s wanted)

  same_cell : (row : List Value) → Among wanted row → (cell : ColumnDef × Value) → Among (value_cells def row) cell → differs after def.name (key_of def row) cell ≡ false
  same_cell row m cell i =
      let fits = member_has (IsRowOf def) wanted row w.rows m in
      let held = member_has (λ y. may_hold y.0 y.1 ≡ true) _ cell fits.cells (cell_of_value def row cell i).0 in
      let shown = shows def site s wanted w.in_order profile row m cell i held in
      ap (λ v. not (is_eq (value_cmp cell.1 v))) shown ∙ ap (λ o. not (is_eq o)) (tied_itself value_total cell.1)

  no_update : (row : List Value) → Among wanted row → row_delta def site after (key_of def row) row ≡ []
  unfolding update
  no_update row m =
      row_delta_stays def site after (key_of def row) row (wanted_is_present def site s wanted w.in_order row m)
      ∙ ap (map _) (filter_none (differs after def.name (key_of def row)) (value_cells def row) (same_cell row m))

  no_removal : removals def site after wanted ≡ []
  unfolding removals
  no_removal =
      ap (map (λ c. row_change def site c.pk _)) (filter_none (λ c. is_present def.name c && not (is_wanted def wanted c.pk)) after (λ c m.
      elim (split (is_present def.name c)) [
        | inl here ↦ (
            let p = and_true _ _ here in
            let alive = alive_by (s ++ written def site s wanted) def.name c.pk c (In_Among after c m) (record { table_is = same_is c.table def.name p.0; pk_is = refl }) p.1 in
            rw (here, present_is_wanted def site s wanted c.pk alive) refl)
        | inr other ↦ rw other refl
      ]))

  no_change : delta def site after wanted ≡ []
  unfolding delta
  no_change =
      ap (set_of change_cmp) (ap (λ cs. cs ++ removals def site after wanted) (flat_map_none (λ row. row_delta def site after (key_of def row) row) wanted no_update) ∙ no_removal)

pub delta_is_once : DeltaIsOnce
delta_is_once def site s wanted profile w = no_change def site s wanted profile w
