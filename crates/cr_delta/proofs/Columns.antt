-- After a write each column outside the key shows the value that is wanted there.
use Rattle.std.proofs.Common.{◌≡◌, inl, inr, ℕ, ℤ, pos, Bool, true, false, not, List, ◌++◌, map, Option, Some, refl, sym, ap, ◌∙◌, Less, Equal, Greater, int_cmp}
use Rattle.std.specs.Prelude.{◌+ℤ◌}
use Rattle.std.specs.List.Sorted.{IsStrictlySortedBy}
use Rattle.std.specs.Ordering.{ordering_reverse}
use Rattle.std.specs.Option.{option_map_or}
use Rattle.std.specs.FinSet.{int_cmp-IsAntisymmetric}
use Rattle.std.proofs.lemmas.Cmp.{int_cmp_total, tied_itself}
use Rattle.cr_value.specs.declared.value.Value.{Value}
use Rattle.cr_value.specs.Order.{bytes_cmp}
use Rattle.cr_value.specs.OrderLaws.{value_exact}
use Rattle.cr_lattice.specs.declared.change.Change.{Change}
use Rattle.cr_lattice.specs.declared.table.ColumnDef.{ColumnDef}
use Rattle.cr_lattice.specs.declared.table.TableDef.{TableDef}
use Rattle.cr_lattice.specs.Change.{weight_cmp}
use Rattle.cr_lattice.specs.ChangeOrder.{row_exact, cid_exact, weight_total}
use Rattle.cr_lattice.specs.Keep.{keep}
use Rattle.cr_lattice.specs.Rows.{is_alive, is_cell, kept_change, column_value, shown, default_of}
use Rattle.cr_lattice.proofs.ChangeLaws.{Beats, Beats-beats}
use Rattle.cr_lattice.proofs.KeepLaws.{In, In-append, In-left, In-right, kept_from, kept_to, kept_above, AtOrAbove}
use Rattle.cr_delta.specs.Key.{key_of}
use Rattle.cr_delta.specs.Delta.{length_of, version_of, value_cells, differs, column_change, row_delta}
use Rattle.cr_delta.specs.Wanted.{may_hold, IsWritable}
use Rattle.cr_delta.proofs.Among.{split, Among}
use Rattle.cr_delta.proofs.Cells.{one_cell, not_row_cid, shown_value}
use Rattle.cr_delta.proofs.Integers.{NotAbove, one_more}
use Rattle.cr_delta.proofs.KeptRows.{search_ends, OfRow, of_cell, above_row, length_is, below_length, kept_cell}
use Rattle.cr_delta.proofs.Members.{eq_true, updated, of_arrival, arrival_column, of_update, update_column, row_delta_stays, row_delta_comes, delta_row}
use Rattle.cr_delta.proofs.Presence.{written, at_key, stays_below, comes_below}

-- a change of a smaller version weighs less
weighs_less : (c d : Change) → int_cmp c.col_version d.col_version ≡ Less → weight_cmp c d ≡ Less
unfolding weight_cmp
weighs_less c d e = rw e refl

not_tied_and_greater : (x y : ℤ) → x ≡ y → int_cmp x y ≡ Greater → ⊥
not_tied_and_greater x y e g = let tie : int_cmp x y ≡ Equal = rw e (tied_itself int_cmp_total y) in absurd cc

-- a change at or above one of the same length is of its column, and of no smaller version
same_column : (m c : Change) → AtOrAbove m c → m.cl ≡ c.cl → (m.cid ≡ c.cid) × NotAbove c.col_version m.col_version
same_column m c over cl =
    elim over [
      | inl same ↦ (ap (λ x. x.cid) same, not_tied_and_greater c.col_version m.col_version (ap (λ x. x.col_version) (sym same)))
      | inr above ↦ elim (Beats-beats m c above).why [
        | inl gt ↦ absurd (not_tied_and_greater m.cl c.cl cl gt)
        | inr rest ↦ (
          cid_exact m.cid c.cid rest.1,
          λ gt. (
              let less = weighs_less m c (int_cmp_total.antisymm m.col_version c.col_version ∙ ap ordering_reverse gt) in
              let more = rest.2 in
              absurd cc),
        )
      ]
    ]

-- nothing of no greater length beats a change, but one of its length and column that weighs more
beaten_level : (e c : Change) → Beats e c → NotAbove e.cl c.cl → (e.cl ≡ c.cl) × (e.cid ≡ c.cid) × (weight_cmp e c ≡ Greater)
beaten_level e c b h =
    elim b.why [
      | inl gt ↦ absurd (h gt)
      | inr rest ↦ (int_cmp-IsAntisymmetric e.cl c.cl rest.0, cid_exact e.cid c.cid rest.1, rest.2)
    ]

not_above_itself : (e c : Change) → e ≡ c → weight_cmp e c ≡ Greater → ⊥
not_above_itself e c same g = let tie : weight_cmp e c ≡ Equal = rw same (tied_itself weight_total c) in absurd cc

pub not_false : (b : Bool) → not b ≡ false → b ≡ true
not_false true e = refl
not_false false e = absurd cc

module _ (def : TableDef) (site : List ℕ) (s : List Change) (wanted : List (List Value)) (sorted : IsStrictlySortedBy bytes_cmp (map (key_of def) wanted)) (profile : IsWritable def)
    (row : List Value) (m : Among wanted row) (cell : ColumnDef × Value) (at : Among (value_cells def row) cell) where
  abbrev all : List Change
  all = s ++ written def site s wanted

  abbrev pk : List ℕ
  pk = key_of def row

  abbrev cl : ℤ
  cl = length_of (keep s) def.name pk

  -- what beats a change of the row is of the row
  beaten_row : (e c : Change) → Beats e c → OfRow def.name pk c → OfRow def.name pk e
  beaten_row e c b r = let x = row_exact e c b.row in record { table_is = x.0 ∙ r.table_is; pk_is = x.1 ∙ r.pk_is }

  written_at : (e : Change) → In (written def site s wanted) e → OfRow def.name pk e → Among (row_delta def site (keep s) pk row) e
  written_at e w r = at_key def site s wanted sorted row e m w r.pk_is

  -- ---- a row that comes

  arrives : is_alive (keep s) def.name pk ≡ false → kept_change (keep all) def.name pk cell.0.name ≡ Some (column_change def site pk (cl +ℤ pos 1) cell (pos 1))
  arrives absent =
      let c = column_change def site pk (cl +ℤ pos 1) cell (pos 1) in
      let r : OfRow def.name pk c = record { table_is = refl; pk_is = refl } in
      let comes = row_delta_comes def site (keep s) pk row absent in
      let here : Among (row_delta def site (keep s) pk row) c = rw comes (arrival_column def site (keep s) pk (cl +ℤ pos 1) row cell at) in
      kept_cell all def.name pk c
      (kept_to all c (record {
        member = In-right s _ c (delta_row def site (keep s) wanted row c m here);
        unbeaten = λ e i over. (
            let b = Beats-beats e c over in
            let q = beaten_row e c b r in
            let l = beaten_level e c b (comes_below def site s wanted sorted row m absent e i q) in
            elim (In-append s (written def site s wanted) e i) [
              | inl old ↦ (
                  let less = one_more e.cl cl (below_length s def.name pk e old q) in
                  let tie : int_cmp e.cl (cl +ℤ pos 1) ≡ Equal = rw l.0 (tied_itself int_cmp_total (cl +ℤ pos 1)) in
                  absurd cc)
              | inr w ↦ elim (of_arrival def site (keep s) pk (cl +ℤ pos 1) row e (rw comes at (written_at e w q))) [
                | inl x ↦ not_row_cid def row cell profile.no_row_cid at (sym l.1 ∙ ap (λ y. y.cid) x)
                | inr x ↦ (
                    let one : x.0 ≡ cell = one_cell def row x.0 cell profile.names x.1 at (sym (ap (λ y. y.cid) x.2) ∙ l.1) in
                    not_above_itself e c (x.2 ∙ ap (λ y. column_change def site pk (cl +ℤ pos 1) y (pos 1)) one) l.2)
              ]
            ]);
      }))
      r

  -- ---- a row that stays

  -- no change of the column of the row's length passes the version of what is kept
  version_below : (e : Change) → In s e → OfRow def.name pk e → e.cl ≡ cl → e.cid ≡ cell.0.name → NotAbove e.col_version (version_of (keep s) def.name pk cell.0.name)
  unfolding version_of
  version_below e i r e_cl e_cid =
      let u = kept_above s e i in
      let a = above_row def.name pk u.0 e u.2 r in
      let c = same_column u.0 e u.2 (sym (length_is s def.name pk u.0 u.1 a.0) ∙ sym e_cl) in
      let found : kept_change (keep s) def.name pk cell.0.name ≡ Some u.0 = ap (kept_change (keep s) def.name pk) (sym (c.0 ∙ e_cid)) ∙ kept_cell s def.name pk u.0 u.1 a.0 in
      rw found c.1

  changes : is_alive (keep s) def.name pk ≡ true → differs (keep s) def.name pk cell ≡ true → kept_change (keep all) def.name pk cell.0.name ≡ Some (updated def site (keep s) pk cell)
  changes alive other =
      let c = updated def site (keep s) pk cell in
      let r : OfRow def.name pk c = record { table_is = refl; pk_is = refl } in
      let stays = row_delta_stays def site (keep s) pk row alive in
      let here : Among (row_delta def site (keep s) pk row) c = rw stays (update_column def site (keep s) pk row cell at other) in
      kept_cell all def.name pk c
      (kept_to all c (record {
        member = In-right s _ c (delta_row def site (keep s) wanted row c m here);
        unbeaten = λ e i over. (
            let b = Beats-beats e c over in
            let q = beaten_row e c b r in
            let l = beaten_level e c b (stays_below def site s wanted sorted row m alive e i q) in
            elim (In-append s (written def site s wanted) e i) [
              | inl old ↦ (
                  let less = weighs_less e c (one_more e.col_version _ (version_below e old q l.0 l.1)) in
                  let more = l.2 in
                  absurd cc)
              | inr w ↦ (
                  let x = of_update def site (keep s) pk row e (rw stays at (written_at e w q)) in
                  let one : x.0 ≡ cell = one_cell def row x.0 cell profile.names x.1 at (sym (ap (λ y. y.cid) x.3) ∙ l.1) in
                  not_above_itself e c (x.3 ∙ ap (updated def site (keep s) pk) one) l.2)
            ]);
      }))
      r

  -- a column that shows its value already is not written
  untouched : is_alive (keep s) def.name pk ≡ true → differs (keep s) def.name pk cell ≡ false → (e : Change) → In (written def site s wanted) e → OfRow def.name pk e → e.cid ≡ cell.0.name → ⊥
  untouched alive same e w r e_cid =
      let x = of_update def site (keep s) pk row e (rw (row_delta_stays def site (keep s) pk row alive) at (written_at e w r)) in
      let one : x.0 ≡ cell = one_cell def row x.0 cell profile.names x.1 at (sym (ap (λ y. y.cid) x.3) ∙ e_cid) in
      let other = ap (differs (keep s) def.name pk) (sym one) ∙ x.2 in
      absurd cc

  remains : is_alive (keep s) def.name pk ≡ true → differs (keep s) def.name pk cell ≡ false → kept_change (keep all) def.name pk cell.0.name ≡ kept_change (keep s) def.name pk cell.0.name
  unfolding kept_change
  remains alive same =
      elim (search_ends (is_cell def.name pk cell.0.name) (keep s)) [
        | inl f ↦ (
            let r = of_cell def.name pk cell.0.name f.0 f.2 in
            let k = kept_from s f.0 f.1 in
            let stays : In (keep all) f.0 = kept_to all f.0 (record {
              member = In-left s _ f.0 k.member;
              unbeaten = λ e i over. (
                  let b = Beats-beats e f.0 over in
                  let q = beaten_row e f.0 b r.0 in
                  elim (In-append s (written def site s wanted) e i) [
                    | inl old ↦ k.unbeaten e old over
                    | inr w ↦ (
                        let f_cl = length_is s def.name pk f.0 f.1 r.0 in
                        let below : NotAbove e.cl f.0.cl = λ gt. stays_below def site s wanted sorted row m alive e i q (ap (int_cmp e.cl) f_cl ∙ gt) in
                        untouched alive same e w q ((beaten_level e f.0 b below).1 ∙ r.1))
                  ]);
            }) in
            let again : kept_change (keep all) def.name pk cell.0.name ≡ Some f.0 = ap (kept_change (keep all) def.name pk) (sym r.1) ∙ kept_cell all def.name pk f.0 stays r.0 in
            again ∙ sym f.3)
        | inr none ↦ elim (search_ends (is_cell def.name pk cell.0.name) (keep all)) [
          | inl g ↦ (
              let r = of_cell def.name pk cell.0.name g.0 g.2 in
              let k = kept_from all g.0 g.1 in
              elim (In-append s (written def site s wanted) g.0 k.member) [
                | inl old ↦ absurd (none.each g.0 (kept_to s g.0 (record { member = old; unbeaten = λ e i over. k.unbeaten e (In-left s _ e i) over })) g.2)
                | inr w ↦ absurd (untouched alive same g.0 w r.0 r.1)
              ])
          | inr none' ↦ none'.nothing ∙ sym none.nothing
        ]
      ]

  -- ---- what the column shows

  pub shows : may_hold cell.0 cell.1 ≡ true → column_value (keep all) def.name pk cell.0 ≡ cell.1
  shows held =
      let shown_of = λ (found : Option Change). option_map_or (λ c. shown cell.0 c.val) found (default_of cell.0) in
      elim (split (is_alive (keep s) def.name pk)) [
        | inr absent ↦ ap shown_of (arrives absent) ∙ shown_value cell.0 cell.1 held
        | inl alive ↦ elim (split (differs (keep s) def.name pk cell)) [
          | inl other ↦ ap shown_of (changes alive other) ∙ shown_value cell.0 cell.1 held
          | inr same ↦ ap shown_of (remains alive same) ∙ sym (value_exact _ _ (eq_true _ (not_false _ same)))
        ]
      ]
