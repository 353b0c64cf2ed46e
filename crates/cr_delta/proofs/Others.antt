-- A write leaves the rows of other tables as they are.
use Rattle.std.proofs.Common.{◌≡◌, inl, inr, ℕ, ◌-◌, false, ◌&&◌, List, [], ◌++◌, map, unwrap_or, Some, sym, ap, ◌∙◌}
use Rattle.std.specs.Prelude.{slice_index_or}
use Rattle.std.specs.List.Sorted.{IsStrictlySortedBy}
use Rattle.std.specs.Option.{option_map_or}
use Rattle.std.specs.Prelude.{filter}
use Rattle.cr_value.specs.declared.value.Value.{Value}
use Rattle.cr_value.specs.declared.value.Value.TheVariants.{Null}
use Rattle.cr_value.specs.Order.{bytes_cmp}
use Rattle.cr_value.specs.OrderLaws.{bytes_total, bytes_exact}
use Rattle.cr_value.specs.Unpacking.{unpacked}
use Rattle.cr_lattice.specs.declared.change.Change.{Change}
use Rattle.cr_lattice.specs.declared.table.ColumnDef.{ColumnDef}
use Rattle.cr_lattice.specs.declared.table.TableDef.{TableDef}
use Rattle.cr_lattice.specs.ChangeOrder.{row_exact}
use Rattle.cr_lattice.specs.Check.{same_bytes, is_odd}
use Rattle.cr_lattice.specs.Keep.{keep}
use Rattle.cr_lattice.specs.Rows.{is_alive, is_of_row, is_present, is_cell, alive_keys, kept_change, column_value, shown, default_of, row, rows}
use Rattle.cr_lattice.proofs.ChangeLaws.{Beats-beats}
use Rattle.cr_lattice.proofs.KeepLaws.{In, In-append, In-left, kept_from, kept_to, any_gives, any_from}
use Rattle.cr_lattice.proofs.SortedSets.{IsStrictlySortedBy-set_of, same_sorted}
use Rattle.cr_delta.specs.Wanted.{DeltaLeavesOthers}
use Rattle.cr_delta.proofs.Among.{split, and_true}
use Rattle.cr_delta.proofs.KeptRows.{search_ends, of_row, of_cell, kept_cell}
use Rattle.cr_delta.proofs.Members.{is_same, of_delta}
use Rattle.cr_delta.proofs.Presence.{written, stays_length, comes_length}
use Rattle.cr_delta.proofs.Shows.{both_ways, has_alive_key}

module _ (def other : TableDef) (site : List ℕ) (s : List Change) (wanted : List (List Value)) (apart : same_bytes other.name def.name ≡ false) where
  abbrev all : List Change
  all = s ++ written def site s wanted

  -- what is written is of the table
  of_table : (c : Change) → In (written def site s wanted) c → c.table ≡ def.name
  of_table c i =
      elim (of_delta def site (keep s) wanted c i) [
        | inl r ↦ elim (split (is_alive (keep s) def.name _)) [
          | inl alive ↦ (stays_length def site s wanted _ r.0 c alive r.2).0.table_is
          | inr absent ↦ (comes_length def site s wanted _ r.0 c absent r.2).0.table_is
        ]
        | inr r ↦ ap (λ x. x.table) r.2
      ]

  not_written : (c : Change) → c.table ≡ other.name → In (written def site s wanted) c → ⊥
  not_written c t i = let same = is_same other.name def.name (sym t ∙ of_table c i) in absurd cc

  stays : (c : Change) → c.table ≡ other.name → In (keep s) c → In (keep all) c
  stays c t i =
      let k = kept_from s c i in
      kept_to all c (record {
        member = In-left s (written def site s wanted) c k.member;
        unbeaten = λ e in_all over. elim (In-append s (written def site s wanted) e in_all) [
          | inl old ↦ k.unbeaten e old over
          | inr w ↦ not_written e ((row_exact e c (Beats-beats e c over).row).0 ∙ t) w
        ];
      })

  was : (c : Change) → c.table ≡ other.name → In (keep all) c → In (keep s) c
  was c t i =
      let k = kept_from all c i in
      elim (In-append s (written def site s wanted) c k.member) [
        | inl old ↦ kept_to s c (record { member = old; unbeaten = λ e in_s over. k.unbeaten e (In-left s (written def site s wanted) e in_s) over })
        | inr w ↦ absurd (not_written c t w)
      ]

  same_alive : (pk : List ℕ) → is_alive (keep all) other.name pk ≡ is_alive (keep s) other.name pk
  unfolding is_alive
  same_alive pk =
      let p = λ (c : Change). is_of_row other.name pk c && is_odd c.cl in
      both_ways _ _
      (λ e. (let r = any_gives p (keep all) e in let t = (of_row other.name pk r.0 (and_true _ _ r.2).0).table_is in any_from p r.0 (keep s) (was r.0 t r.1) r.2))
      (λ e. (let r = any_gives p (keep s) e in let t = (of_row other.name pk r.0 (and_true _ _ r.2).0).table_is in any_from p r.0 (keep all) (stays r.0 t r.1) r.2))

  sorted_keys : (kept : List Change) → IsStrictlySortedBy bytes_cmp (alive_keys kept other.name)
  unfolding alive_keys
  sorted_keys kept = IsStrictlySortedBy-set_of bytes_total bytes_exact (map (λ c. c.pk) (filter (is_present other.name) kept))

  same_keys : alive_keys (keep all) other.name ≡ alive_keys (keep s) other.name
  same_keys =
      same_sorted bytes_total bytes_exact _ _ (sorted_keys (keep all)) (sorted_keys (keep s))
      (λ pk. has_alive_key (keep all) other.name pk ∙ same_alive pk ∙ sym (has_alive_key (keep s) other.name pk))

  same_change : (pk cid : List ℕ) → kept_change (keep all) other.name pk cid ≡ kept_change (keep s) other.name pk cid
  unfolding kept_change
  same_change pk cid =
      elim (search_ends (is_cell other.name pk cid) (keep s)) [
        | inl f ↦ (
            let r = of_cell other.name pk cid f.0 f.2 in
            let again : kept_change (keep all) other.name pk cid ≡ Some f.0 = ap (kept_change (keep all) other.name pk) (sym r.1) ∙ kept_cell all other.name pk f.0 (stays f.0 r.0.table_is f.1) r.0 in
            again ∙ sym f.3)
        | inr none ↦ elim (search_ends (is_cell other.name pk cid) (keep all)) [
          | inl g ↦ (let r = of_cell other.name pk cid g.0 g.2 in absurd (none.each g.0 (was g.0 r.0.table_is g.1) g.2))
          | inr none' ↦ none'.nothing ∙ sym none.nothing
        ]
      ]

  same_value : (pk : List ℕ) (col : ColumnDef) → column_value (keep all) other.name pk col ≡ column_value (keep s) other.name pk col
  same_value pk col = ap (λ found. option_map_or (λ c. shown col c.val) found (default_of col)) (same_change pk col.name)

  same_row : (pk : List ℕ) → row (keep all) other pk ≡ row (keep s) other pk
  unfolding row
  same_row pk = λ i. map (λ col. option_map_or (λ place. slice_index_or (unwrap_or (unpacked pk) []) (place - 1) Null) col.key (same_value pk col i)) other.columns

  same_rows : rows (keep all) other ≡ rows (keep s) other
  unfolding rows
  same_rows = λ i. map (λ pk. same_row pk i) (same_keys i)

pub delta_leaves_others : DeltaLeavesOthers
delta_leaves_others def other site s wanted apart = same_rows def other site s wanted apart
