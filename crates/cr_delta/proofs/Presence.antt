-- After a write exactly the rows that are wanted are present.
use Rattle.std.proofs.Common.{◌≡◌, inl, inr, ℕ, ℤ, pos, true, false, List, ◌++◌, map, refl, sym, ap, ◌∙◌, Less, Equal, Greater, int_cmp}
use Rattle.std.specs.Prelude.{◌+ℤ◌}
use Rattle.std.specs.List.Sorted.{IsStrictlySortedBy}
use Rattle.std.specs.Ordering.{ordering_reverse}
use Rattle.std.specs.FinSet.{int_cmp-IsAntisymmetric}
use Rattle.std.proofs.lemmas.Cmp.{int_cmp_total, tied_itself}
use Rattle.cr_value.specs.declared.value.Value.{Value}
use Rattle.cr_value.specs.Order.{bytes_cmp}
use Rattle.cr_lattice.specs.declared.change.Change.{Change}
use Rattle.cr_lattice.specs.declared.table.TableDef.{TableDef}
use Rattle.cr_lattice.specs.Check.{is_odd}
use Rattle.cr_lattice.specs.Keep.{keep}
use Rattle.cr_lattice.specs.Present.{IsGreatestOf}
use Rattle.cr_lattice.specs.Rows.{is_alive, is_present}
use Rattle.cr_lattice.proofs.KeepLaws.{In, In-append, In-left, In-right, kept_from, kept_above}
use Rattle.cr_lattice.proofs.RowLemmas.{alive_gives, alive_from}
use Rattle.cr_delta.specs.Key.{key_of}
use Rattle.cr_delta.specs.Delta.{length_of, is_wanted, row_change, row_delta, delta}
use Rattle.cr_delta.proofs.Among.{split, and_true, Among}
use Rattle.cr_delta.proofs.Integers.{NotAbove, odd_after_even, even_after_odd, one_more}
use Rattle.cr_delta.proofs.Members.{is_same, wanted_from, one_row, of_arrival, arrival_row, of_update, row_delta_stays, row_delta_comes, of_delta, delta_row, delta_removal}
use Rattle.cr_delta.proofs.KeptRows.{OfRow, of_row, row_is, above_row, length_is, alive_has, not_alive_even, below_length}

not_above_equal : (a b : ℤ) → a ≡ b → NotAbove a b
not_above_equal a b same e = let tie : int_cmp a b ≡ Equal = rw same (tied_itself int_cmp_total b) in absurd cc

not_above_less : (a b : ℤ) → int_cmp a b ≡ Less → NotAbove a b
not_above_less a b less e = absurd cc

-- of two that are not above each other, the first is the second, and so one more is above it
above_level : (a b : ℤ) → NotAbove a b → int_cmp (b +ℤ pos 1) a ≡ Greater
above_level a b h = int_cmp_total.antisymm (b +ℤ pos 1) a ∙ ap ordering_reverse (one_more a b h)

module _ (def : TableDef) (site : List ℕ) (s : List Change) (wanted : List (List Value)) where
  abbrev pub written : List Change
  written = delta def site (keep s) wanted

  -- what a wanted row changes is of its row, and has the row's new causal length
  pub stays_length : (pk : List ℕ) (row : List Value) (c : Change) → is_alive (keep s) def.name pk ≡ true → Among (row_delta def site (keep s) pk row) c
      → OfRow def.name pk c × (c.cl ≡ length_of (keep s) def.name pk)
  stays_length pk row c alive m =
      let u = of_update def site (keep s) pk row c (rw (row_delta_stays def site (keep s) pk row alive) at m) in
      (record { table_is = ap (λ x. x.table) u.3; pk_is = ap (λ x. x.pk) u.3 }, ap (λ x. x.cl) u.3)

  pub comes_length : (pk : List ℕ) (row : List Value) (c : Change) → is_alive (keep s) def.name pk ≡ false → Among (row_delta def site (keep s) pk row) c
      → OfRow def.name pk c × (c.cl ≡ length_of (keep s) def.name pk +ℤ pos 1)
  comes_length pk row c absent m =
      elim (of_arrival def site (keep s) pk _ row c (rw (row_delta_comes def site (keep s) pk row absent) at m)) [
        | inl same ↦ (record { table_is = ap (λ x. x.table) same; pk_is = ap (λ x. x.pk) same }, ap (λ x. x.cl) same)
        | inr u ↦ (record { table_is = ap (λ x. x.table) u.2; pk_is = ap (λ x. x.pk) u.2 }, ap (λ x. x.cl) u.2)
      ]

  pub row_delta_pk : (pk : List ℕ) (row : List Value) (c : Change) → Among (row_delta def site (keep s) pk row) c → c.pk ≡ pk
  row_delta_pk pk row c m =
      elim (split (is_alive (keep s) def.name pk)) [
        | inl alive ↦ (stays_length pk row c alive m).0.pk_is
        | inr absent ↦ (comes_length pk row c absent m).0.pk_is
      ]

  -- what is written at the key of a wanted row is what this row changes
  pub at_key : IsStrictlySortedBy bytes_cmp (map (key_of def) wanted) → (row : List Value) (c : Change) → Among wanted row → In written c → c.pk ≡ key_of def row
      → Among (row_delta def site (keep s) (key_of def row) row) c
  at_key sorted row c m i e =
      elim (of_delta def site (keep s) wanted c i) [
        | inl r ↦ (
            let same : r.0 ≡ row = one_row def wanted r.0 row sorted r.1 m (sym (row_delta_pk _ r.0 c r.2) ∙ e) in
            rw same at r.2)
        | inr r ↦ (
            let yes_wanted = wanted_from def wanted row r.0.pk m (sym e ∙ ap (λ x. x.pk) r.2) in
            let not_wanted = r.1.unwanted in
            absurd cc)
      ]

  module _ (sorted : IsStrictlySortedBy bytes_cmp (map (key_of def) wanted)) (row : List Value) (m : Among wanted row) where
    -- a row that was present has no change above what was kept of it
    pub stays_below : is_alive (keep s) def.name (key_of def row) ≡ true → (e : Change) → In (s ++ written) e → OfRow def.name (key_of def row) e
        → NotAbove e.cl (length_of (keep s) def.name (key_of def row))
    stays_below alive e i r =
        elim (In-append s written e i) [
          | inl l ↦ below_length s def.name (key_of def row) e l r
          | inr w ↦ not_above_equal _ _ (stays_length (key_of def row) row e alive (at_key sorted row e m w r.pk_is)).1
        ]

    pub comes_below : is_alive (keep s) def.name (key_of def row) ≡ false → (e : Change) → In (s ++ written) e → OfRow def.name (key_of def row) e
        → NotAbove e.cl (length_of (keep s) def.name (key_of def row) +ℤ pos 1)
    comes_below absent e i r =
        let cl = length_of (keep s) def.name (key_of def row) in
        elim (In-append s written e i) [
          | inl l ↦ not_above_less e.cl (cl +ℤ pos 1) (one_more e.cl cl (below_length s def.name (key_of def row) e l r))
          | inr w ↦ not_above_equal _ _ (comes_length (key_of def row) row e absent (at_key sorted row e m w r.pk_is)).1
        ]

    pub wanted_is_present : is_alive (keep (s ++ written)) def.name (key_of def row) ≡ true
    wanted_is_present =
        let pk = key_of def row in
        elim (split (is_alive (keep s) def.name pk)) [
          | inl alive ↦ (
              let d = alive_has s def.name pk alive in
              let cl = length_is s def.name pk d.0 d.1 d.2 in
              alive_from (s ++ written) def.name pk d.0
              (record {
                member = In-left s written d.0 (kept_from s d.0 d.1).member;
                row = row_is def.name pk d.0 d.2;
                greatest = λ e i r gt. stays_below alive e i (of_row def.name pk e r) (ap (int_cmp e.cl) cl ∙ gt);
              })
              d.3)
          | inr absent ↦ (
              let cl = length_of (keep s) def.name pk +ℤ pos 1 in
              let c = row_change def site pk cl in
              let arrives : Among (row_delta def site (keep s) pk row) c = rw (row_delta_comes def site (keep s) pk row absent) (arrival_row def site (keep s) pk cl row) in
              alive_from (s ++ written) def.name pk c
              (record {
                member = In-right s written c (delta_row def site (keep s) wanted row c m arrives);
                row = row_is def.name pk c (record { table_is = refl; pk_is = refl });
                greatest = λ e i r. comes_below absent e i (of_row def.name pk e r);
              })
              (odd_after_even (length_of (keep s) def.name pk) (not_alive_even s def.name pk absent)))
        ]

  -- neither is greater
  level : (a b : ℤ) → NotAbove a b → NotAbove b a → a ≡ b
  level a b f g =
      elim (int_cmp a b) as (λ r. int_cmp a b ≡ r → a ≡ b) [
        | Less ↦ λ e. absurd (g (int_cmp_total.antisymm b a ∙ ap ordering_reverse e))
        | Equal ↦ λ e. int_cmp-IsAntisymmetric a b e
        | Greater ↦ λ e. absurd (f e)
      ] refl

  -- a kept change of odd length in a row that is not wanted is not the greatest
  goes : (pk : List ℕ) (c d : Change) → is_wanted def wanted pk ≡ false → IsGreatestOf (s ++ written) def.name pk c → In (keep s) d → OfRow def.name pk d → is_odd d.cl ≡ true → NotAbove c.cl d.cl → ⊥
  goes pk c d unwanted g k r odd h =
      let gone = row_change def site d.pk (d.cl +ℤ pos 1) in
      let here : is_present def.name d ≡ true = rw (is_same d.table def.name r.table_is, odd) refl in
      let i : In written gone = delta_removal def site (keep s) wanted d k here (ap (is_wanted def wanted) r.pk_is ∙ unwanted) in
      g.greatest gone (In-right s written gone i) (row_is def.name pk gone (record { table_is = refl; pk_is = r.pk_is })) (above_level c.cl d.cl h)

  pub present_is_wanted : (pk : List ℕ) → is_alive (keep (s ++ written)) def.name pk ≡ true → is_wanted def wanted pk ≡ true
  present_is_wanted pk alive =
      elim (split (is_wanted def wanted pk)) [
        | inl so ↦ so
        | inr unwanted ↦ (
            let a = alive_gives (s ++ written) def.name pk alive in
            let c = a.0 in
            let r = of_row def.name pk c a.1.row in
            elim (In-append s written c a.1.member) [
              | inl l ↦ (
                  let u = kept_above s c l in
                  let v = above_row def.name pk u.0 c u.2 r in
                  let back : NotAbove u.0.cl c.cl = a.1.greatest u.0 (In-left s written u.0 (kept_from s u.0 u.1).member) (row_is def.name pk u.0 v.0) in
                  let cl = level u.0.cl c.cl back v.1 in
                  absurd (goes pk c u.0 unwanted a.1 u.1 v.0 (ap is_odd cl ∙ a.2) v.1))
              | inr w ↦ elim (of_delta def site (keep s) wanted c w) [
                | inl x ↦ (
                    let yes_wanted = wanted_from def wanted x.0 pk x.1 (sym (row_delta_pk _ x.0 c x.2) ∙ r.pk_is) in
                    absurd cc)
                | inr x ↦ (
                    let even = even_after_odd x.0.cl (and_true _ _ x.1.present).1 in
                    let odd : is_odd (x.0.cl +ℤ pos 1) ≡ true = ap is_odd (sym (ap (λ y. y.cl) x.2)) ∙ a.2 in
                    absurd cc)
              ]
            ])
      ]
