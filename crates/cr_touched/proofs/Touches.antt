-- The changes of a write are those of the touched keys, from the changes kept of those keys.
use Rattle.std.proofs.Common.{◌≡◌, inl, inr, ℕ, Bool, true, false, cond, not, ◌&&◌, map, List, [], ◌∷◌, ◌++◌, Option, Some, None, is_some, refl, sym, ap, subst, ◌∙◌}
use Rattle.std.specs.Prelude.{filter}
use Rattle.std.specs.List.{zip, flat_map, AllByRecursion}
use Rattle.std.specs.Ordering.{is_eq}
use Rattle.std.proofs.lemmas.Cmp.{tied_itself}
use Rattle.cr_value.specs.declared.value.Value.{Value}
use Rattle.cr_value.specs.Order.{value_cmp}
use Rattle.cr_value.specs.OrderLaws.{value_total}
use Rattle.cr_lattice.specs.declared.change.Change.{Change}
use Rattle.cr_lattice.specs.declared.table.ColumnDef.{ColumnDef}
use Rattle.cr_lattice.specs.declared.table.TableDef.{TableDef}
use Rattle.cr_lattice.specs.Change.{change_cmp}
use Rattle.cr_lattice.specs.Sets.{set_of}
use Rattle.cr_lattice.specs.Keep.{keep}
use Rattle.cr_lattice.specs.Check.{same_bytes, is_odd}
use Rattle.cr_lattice.specs.Rows.{is_of_row, is_alive, is_present, cell, column_value, row}
use Rattle.cr_lattice.proofs.Tested.{split, and_false}
use Rattle.cr_lattice.proofs.Filters.{filter-filter}
use Rattle.cr_delta.specs.Key.{key_of}
use Rattle.cr_delta.specs.Delta.{value_cells, differs, is_wanted, row_delta, update, removals, delta}
use Rattle.cr_delta.proofs.Among.{Among, In_Among}
use Rattle.cr_delta.proofs.Cells.{cell_of_value}
use Rattle.cr_delta.proofs.KeptRows.{alive_by}
use Rattle.cr_delta.proofs.Members.{same_is, row_delta_stays}
use Rattle.cr_delta.proofs.Once.{filter_none}
use Rattle.cr_delta.proofs.Wholes.{row_delta_of_run}
use Rattle.cr_touched.specs.Parts.{is_at, part}
use Rattle.cr_touched.specs.Touched.{passes, IsShownOutside, DeltaOfTouchedKeys}
use Rattle.cr_touched.proofs.Parts.{any_filter, of_row_part}

cell_is : (f : ColumnDef → Value) (cols : List ColumnDef) (x : ColumnDef × Value) → Among (zip cols (map f cols)) x → x.1 ≡ f x.0
cell_is f [] x m = absurd m
cell_is f (col ∷ cols) x m = elim m [ inl here ↦ ap (λ (y : ColumnDef × Value). y.1) here ∙ ap (λ (y : ColumnDef × Value). f y.0) (sym here) | inr there ↦ cell_is f cols x there ]

no_key : (k : Option ℕ) → is_some k ≡ false → k ≡ None
no_key None e = refl
no_key (Some p) e = absurd cc

and_is : (b : Bool) → (b && true) ≡ b
and_is true = refl
and_is false = refl

pub filter_members : {X : Type 0} (p q : X → Bool) (xs : List X) → ((x : X) → Among xs x → p x ≡ q x) → filter p xs ≡ filter q xs
filter_members p q [] h = refl
filter_members p q (x ∷ xs) h = (λ i. cond (h x (inl refl) i) (x ∷ filter_members p q xs (λ y m. h y (inr m)) i) (filter_members p q xs (λ y m. h y (inr m)) i))

module _ (def : TableDef) (site : List ℕ) (s : List Change) (wanted : List (List Value)) (p : List ℕ → Bool) (outside : IsShownOutside (keep s) def wanted p) where
  abbrev some : List Change
  some = part def.name p (keep s)

  -- ---- rows

  same_run : (pk : List ℕ) → p pk ≡ true → filter (is_of_row def.name pk) some ≡ filter (is_of_row def.name pk) (keep s)
  unfolding part
  same_run pk e =
      filter-filter (is_of_row def.name pk) (is_at def.name p) (keep s)
      ∙ filter_members _ _ (keep s) (λ c m.
      elim (split (is_of_row def.name pk c)) [
        | inl h ↦ ap (λ b. b && is_of_row def.name pk c) (of_row_part def.name p pk c h ∙ e)
        | inr h ↦ ap (λ b. is_at def.name p c && b) h ∙ and_false (is_at def.name p c) ∙ sym h
      ])

  row_in : (r : List Value) → p (key_of def r) ≡ true → row_delta def site (keep s) (key_of def r) r ≡ row_delta def site some (key_of def r) r
  row_in r e =
      let pk = key_of def r in
      sym (row_delta_of_run def site (keep s) pk r) ∙ ap (λ cs. row_delta def site cs pk r) (sym (same_run pk e)) ∙ row_delta_of_run def site some pk r

  same_cell : (r : List Value) → row (keep s) def (key_of def r) ≡ r → (x : ColumnDef × Value) → Among (value_cells def r) x → differs (keep s) def.name (key_of def r) x ≡ false
  unfolding row
  same_cell r shows x i =
      let pk = key_of def r in
      let v = cell_of_value def r x i in
      let at = subst (λ vs. Among (zip def.columns vs) x) (sym shows) v.0 in
      let is = cell_is (cell (keep s) def.name pk) def.columns x at in
      let none = no_key x.0.key v.1 in
      let value : x.1 ≡ column_value (keep s) def.name pk x.0 = is ∙ rw none refl in
      ap (λ y. not (is_eq (value_cmp x.1 y))) (sym value) ∙ ap (λ o. not (is_eq o)) (tied_itself value_total x.1)

  row_out : (r : List Value) → is_alive (keep s) def.name (key_of def r) ≡ true → row (keep s) def (key_of def r) ≡ r → row_delta def site (keep s) (key_of def r) r ≡ []
  unfolding update
  row_out r alive shows =
      row_delta_stays def site (keep s) (key_of def r) r alive
      ∙ ap (map _) (filter_none (differs (keep s) def.name (key_of def r)) (value_cells def r) (same_cell r shows))

  abbrev Shown : List Value → Type 0
  Shown r = p (key_of def r) ≡ false → (is_alive (keep s) def.name (key_of def r) ≡ true) × (row (keep s) def (key_of def r) ≡ r)

  rows_same : (ws : List (List Value)) → AllByRecursion Shown ws → flat_map (λ r. row_delta def site (keep s) (key_of def r) r) ws ≡ flat_map (λ r. row_delta def site some (key_of def r) r) (filter (passes def p) ws)
  rows_same [] a = refl
  rows_same (w ∷ ws) a =
      let old : List Value → List Change = λ r. row_delta def site (keep s) (key_of def r) r in
      let new : List Value → List Change = λ r. row_delta def site some (key_of def r) r in
      let goal : Bool → Type 0 = λ b. old w ++ flat_map old ws ≡ flat_map new (cond b (w ∷ filter (passes def p) ws) (filter (passes def p) ws)) in
      elim (split (p (key_of def w))) [
        | inl e ↦ subst goal (sym e) (λ i. row_in w e i ++ rows_same ws a.1 i)
        | inr e ↦ subst goal (sym e) (let h = a.0 e in ap (λ l. l ++ flat_map old ws) (row_out w h.0 h.1) ∙ rows_same ws a.1)
      ]

  -- ---- rows that go

  wanted_in : (pk : List ℕ) → p pk ≡ true → is_wanted def (filter (passes def p) wanted) pk ≡ is_wanted def wanted pk
  unfolding is_wanted
  wanted_in pk e = any_filter (λ r. same_bytes (key_of def r) pk) (passes def p) true (λ r h. ap p (same_is (key_of def r) pk h) ∙ e) wanted ∙ and_is _

  goes_alike : (c : Change) → Among (keep s) c → (is_present def.name c && not (is_wanted def wanted c.pk)) ≡ (is_at def.name p c && (is_present def.name c && not (is_wanted def (filter (passes def p) wanted) c.pk)))
  goes_alike c m =
      elim (split (same_bytes c.table def.name)) [
        | inr t ↦ rw t refl
        | inl t ↦ elim (split (p c.pk)) [
          | inl e ↦ rw (t, e, wanted_in c.pk e) refl
          | inr e ↦ elim (split (is_odd c.cl)) [
            | inr d ↦ rw (t, e, d) refl
            | inl d ↦ (
                let alive = alive_by s def.name c.pk c (In_Among (keep s) c m) (record { table_is = same_is c.table def.name t; pk_is = refl }) d in
                rw (t, e, d, outside.all c.pk e alive) refl)
          ]
        ]
      ]

  removals_same : removals def site (keep s) wanted ≡ removals def site some (filter (passes def p) wanted)
  unfolding removals part
  removals_same =
      ap (map _) (filter_members _ _ (keep s) goes_alike ∙ sym (filter-filter (λ c. is_present def.name c && not (is_wanted def (filter (passes def p) wanted) c.pk)) (is_at def.name p) (keep s)))

  delta_same : delta def site (keep s) wanted ≡ delta def site some (filter (passes def p) wanted)
  unfolding delta
  delta_same = (λ i. set_of change_cmp (rows_same wanted outside.shown i ++ removals_same i))

pub delta_of_touched : DeltaOfTouchedKeys
delta_of_touched def site s wanted p outside = delta_same def site s wanted p outside
