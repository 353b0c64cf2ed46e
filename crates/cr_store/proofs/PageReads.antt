-- What the SELECTs of a page show.
use Rattle.std.proofs.Common.{◌≡◌, ℕ, ℤ, pos, List, [], ◌∷◌, map, true, false, Option, Some, None, codes, refl, ap, ◌∙◌, is_gt, Ordering, Less, Equal, Greater}
use Rattle.std.specs.Prelude.{filter}
use Rattle.std.specs.Ordering.{is_lt, is_le, ordering_reverse}
use Rattle.sqlite.specs.declared.types.Value.TheVariants.{Int, Blob}
use Rattle.sqlite.specs.Order.{Row}
use Rattle.sqlite.specs.State.{State, Shown}
use Rattle.sqlite.specs.Listing.{understood, reads_listing}
use Rattle.sqlite.specs.Term.{Term, col, op2}
use Rattle.sqlite.specs.Command.TheVariants.{Select}
use Rattle.sqlite.proofs.Callers.{IsPlain, command_of}
use Rattle.sqlite_tied.specs.Compute.{everything}
use Rattle.sqlite_value.specs.Order.{value_cmp}
use Rattle.sqlite_value.proofs.OrderLemmas.{value_cmp-Blob, value_cmp-apart}
use Rattle.sqlite_value.specs.declared.keys.Collation.TheVariants.{Binary}
use Rattle.sqlite_sql.specs.Ops.{binary, is_true}
use Rattle.sqlite_sql.specs.declared.ops.BinaryOp.TheVariants.{Compare}
use Rattle.sqlite_sql.specs.declared.ops.CompareOp.TheVariants.{Gt, Le}
use Rattle.cr_rows.specs.Rows.{SameRows}
use Rattle.cr_rows.proofs.SelectLemmas.{plain_query, passes_all, lists_answered, asks}
use Rattle.cr_rows.proofs.TextLemmas.{and_true}
use Rattle.cr_value.specs.Order.{bytes_cmp}
use Rattle.cr_value.specs.OrderLaws.{bytes_total}
use Rattle.cr_lattice.specs.declared.stamped.Stamped.{Stamped}
use Rattle.cr_lattice.specs.declared.table.Table.{Table}
use Rattle.cr_cells.specs.Pages.{above, between, is_at}
use Rattle.cr_store.specs.declared.format.Format.TheVariants.{Second}
use Rattle.cr_store.specs.Ordinals.{ordinal, IsNamed}
use Rattle.cr_store.specs.Pages.{below}
use Rattle.cr_store.specs.Rows.{cell_row}
use Rattle.cr_store.specs.Schema.{store_schema}
use Rattle.cr_store.specs.Shows.{HasCells}
use Rattle.cr_store.proofs.RowTests.{one_way, same_number, same_table}
use Rattle.cr_store.proofs.TextLemmas.{equals_number, names, shows}
use Rattle.cr_store.proofs.ReadLemmas.{as_cells, rows_kept, shown}

-- ---- the texts

abbrev pub select_part : List ℕ
select_part = codes "SELECT tab, pk, cid, cl, ver, val, site, dbv, seq FROM cr_cell2 WHERE tab = ?1 AND pk > ?2 AND pk <= ?3"

abbrev pub select_rest : List ℕ
select_rest = codes "SELECT tab, pk, cid, cl, ver, val, site, dbv, seq FROM cr_cell2 WHERE tab = ?1 AND pk > ?2"

abbrev pub select_key : List ℕ
select_key = codes "SELECT pk FROM cr_cell2 WHERE tab = ?1 AND pk > ?2 ORDER BY pk LIMIT 1 OFFSET ?3"

abbrev at_rest : List Term
at_rest = equals_number 1 0 ∷ op2 (Compare Gt Binary) (col 1 2) (col 0 1) ∷ []

abbrev at_part : List Term
at_part = equals_number 1 0 ∷ op2 (Compare Gt Binary) (col 1 2) (col 0 1) ∷ op2 (Compare Le Binary) (col 1 2) (col 0 2) ∷ []

part_is : command_of (understood store_schema select_part) ≡ Select (record { lets = []; body = plain_query 8 at_part shows [] }) names
unfolding understood everything
part_is = refl

pub part_plain : IsPlain (understood store_schema select_part)
unfolding understood everything
part_plain = (refl, refl)

part_unlisted : reads_listing store_schema select_part ≡ false
unfolding understood everything
part_unlisted = refl

rest_is : command_of (understood store_schema select_rest) ≡ Select (record { lets = []; body = plain_query 8 at_rest shows [] }) names
unfolding understood everything
rest_is = refl

pub rest_plain : IsPlain (understood store_schema select_rest)
unfolding understood everything
rest_plain = (refl, refl)

rest_unlisted : reads_listing store_schema select_rest ≡ false
unfolding understood everything
rest_unlisted = refl

pub key_plain : IsPlain (understood store_schema select_key)
unfolding understood everything
key_plain = (refl, refl)

-- ---- how sqlite compares keys

turned : (o : Ordering) → is_gt (ordering_reverse o) ≡ is_lt o
turned Less = refl
turned Equal = refl
turned Greater = refl

above_key : (x y : List ℕ) → is_true (binary (Compare Gt Binary) (Blob x) (Blob y)) ≡ is_lt (bytes_cmp y x)
unfolding binary
above_key x y = one_way (is_gt (value_cmp (Blob x) (Blob y))) ∙ ap is_gt (value_cmp-Blob x y) ∙ ap is_gt (bytes_total.antisymm x y) ∙ turned (bytes_cmp y x)

above_number : (x : List ℕ) (n : ℤ) → is_true (binary (Compare Gt Binary) (Blob x) (Int n)) ≡ true
unfolding binary
above_number x n = one_way (is_gt (value_cmp (Blob x) (Int n))) ∙ ap is_gt (value_cmp-apart (Blob x) (Int n) (λ e. absurd cc))

up_to_key : (x y : List ℕ) → is_true (binary (Compare Le Binary) (Blob x) (Blob y)) ≡ is_le (bytes_cmp x y)
unfolding binary
up_to_key x y = one_way (is_le (value_cmp (Blob x) (Blob y))) ∙ ap is_le (value_cmp-Blob x y)

above_given : (after : Option (List ℕ)) (x : List ℕ) → is_true (binary (Compare Gt Binary) (Blob x) (below after)) ≡ above after x
above_given None x = above_number x (pos 0)
above_given (Some y) x = above_key x y

module _ (ts : List Table) (table : List ℕ) (after : Option (List ℕ)) where
  passes_part : (end : List ℕ) (id : ℤ) (s : Stamped) → IsNamed ts s
      → passes_all at_part (Int (ordinal ts table) ∷ below after ∷ Blob end ∷ []) (Int id ∷ cell_row Second ts s) ≡ is_at table (between after (Some end)) s
  passes_part end id s there =
      rw (same_number (ordinal ts s.change.table) (ordinal ts table), above_given after s.change.pk, up_to_key s.change.pk end, and_true (is_le (bytes_cmp s.change.pk end)), same_table ts s.change.table table there)

  passes_rest : (id : ℤ) (s : Stamped) → IsNamed ts s → passes_all at_rest (Int (ordinal ts table) ∷ below after ∷ []) (Int id ∷ cell_row Second ts s) ≡ is_at table (between after None) s
  passes_rest id s there = rw (same_number (ordinal ts s.change.table) (ordinal ts table), above_given after s.change.pk, same_table ts s.change.table table there)

  pub shows_part : (old new : State) (a b o d : List Row) (ss : List Stamped) (end : List ℕ) (rows : List Row) → HasCells old.now ts a b o d ss
      → Shown select_part (Int (ordinal ts table) ∷ below after ∷ Blob end ∷ []) old new rows → SameRows (map (cell_row Second ts) (filter (is_at table (between after (Some end))) ss)) rows
  shows_part old new a b o d ss end rows it h =
      let params : Row = Int (ordinal ts table) ∷ below after ∷ Blob end ∷ [] in
      let asked = asks store_schema select_part 8 at_part shows [] names params old new rows part_is part_plain part_unlisted refl it.held.schema h in
      let each = passes_part end in
      rows_kept ts (passes_all at_part params) (is_at table (between after (Some end))) (old.now.trees 8) ss it.named each rows
      (lists_answered at_part shows [] params (old.now.trees 8) rows (map (cell_row Second ts) ss) _
      (as_cells ts (passes_all at_part params) (is_at table (between after (Some end))) (old.now.trees 8) ss it.named each) (λ id x k. shown ts params id ss x k) it.held.cells_are asked)

  pub shows_rest : (old new : State) (a b o d : List Row) (ss : List Stamped) (rows : List Row) → HasCells old.now ts a b o d ss
      → Shown select_rest (Int (ordinal ts table) ∷ below after ∷ []) old new rows → SameRows (map (cell_row Second ts) (filter (is_at table (between after None)) ss)) rows
  shows_rest old new a b o d ss rows it h =
      let params : Row = Int (ordinal ts table) ∷ below after ∷ [] in
      let asked = asks store_schema select_rest 8 at_rest shows [] names params old new rows rest_is rest_plain rest_unlisted refl it.held.schema h in
      let each = passes_rest in
      rows_kept ts (passes_all at_rest params) (is_at table (between after None)) (old.now.trees 8) ss it.named each rows
      (lists_answered at_rest shows [] params (old.now.trees 8) rows (map (cell_row Second ts) ss) _
      (as_cells ts (passes_all at_rest params) (is_at table (between after None)) (old.now.trees 8) ss it.named each) (λ id x k. shown ts params id ss x k) it.held.cells_are asked)
