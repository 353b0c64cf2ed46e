-- What the steps of a write add together.
use Rattle.std.proofs.Common.{◌≡◌, inl, inr, ℕ, ℤ, pos, Bool, true, false, cond, not, ◌&&◌, ◌||◌, List, [], ◌∷◌, ◌++◌, map, Some, refl, sym, ap, ◌∙◌}
use Rattle.std.specs.Prelude.{◌+ℤ◌, filter, find}
use Rattle.std.specs.List.{list_any, flat_map, zip}
use Rattle.std.specs.List.Retain.{IsFiltered, DiffersFromLast}
use Rattle.std.specs.List.Sorted.{IsPermutation, IsSorted}
use Rattle.std.specs.Option.{option_map_or}
use Rattle.std.specs.Ordering.{is_eq, eq_by_cmp}
use Rattle.std.proofs.lemmas.List.Folds.{list_any-append}
use Rattle.cr_value.specs.declared.value.Value.{Value}
use Rattle.cr_value.specs.Order.{value_cmp}
use Rattle.cr_value.specs.OrderLaws.{bytes_total, bytes_exact}
use Rattle.cr_lattice.specs.declared.change.Change.{Change}
use Rattle.cr_lattice.specs.declared.table.ColumnDef.{ColumnDef}
use Rattle.cr_lattice.specs.declared.table.TableDef.{TableDef}
use Rattle.cr_lattice.specs.Change.{change_cmp}
use Rattle.cr_lattice.specs.ChangeOrder.{change_total, change_exact}
use Rattle.cr_lattice.specs.Sets.{set_of}
use Rattle.cr_lattice.proofs.SortedSets.{list_any-set_of, sorted_set}
use Rattle.cr_lattice.specs.Check.{same_bytes, is_key_column, is_odd}
use Rattle.cr_lattice.specs.Rows.{keys_in_order, is_of_row, is_alive, is_cell, is_present, kept_change, column_value, shown, default_of}
use Rattle.cr_delta.specs.Key.{cells_of, key_of}
use Rattle.cr_delta.specs.Delta.{length_of, version_of, value_cells, differs, is_wanted, row_change, column_change, arrival, update, row_delta, removals, delta, is_past_limit, passes_limit}
use Rattle.cr_delta.specs.Steps.{new_cell, changed_cell, removal}
use Rattle.cr_delta.proofs.Additions.{changed_key, changed_same, changed_other}
use Rattle.cr_delta.proofs.Among.{split, and_true}
use Rattle.cr_delta.proofs.Columns.{not_false}
use Rattle.cr_delta.proofs.Members.{not_true}

-- what each element adds, one thing or nothing, is what the elements that pass a test give
flat_map_filter : {A B : Type 0} (p : A → Bool) (f : A → B) (g : A → List B) (xs : List A) → ((x : A) → p x ≡ true → g x ≡ f x ∷ []) → ((x : A) → p x ≡ false → g x ≡ []) → flat_map g xs ≡ map f (filter p xs)
flat_map_filter p f g [] passes fails = refl
flat_map_filter p f g (x ∷ xs) passes fails =
    let rest = flat_map_filter p f g xs passes fails in
    elim (split (p x)) [
      | inl so ↦ (let here = passes x so in rw (here, so) (ap (λ ys. f x ∷ ys) rest))
      | inr not_so ↦ (let here = fails x not_so in rw (here, not_so) rest)
    ]

filter_filter : {A : Type 0} (p q : A → Bool) (xs : List A) → filter p (filter q xs) ≡ filter (λ x. q x && p x) xs
filter_filter p q [] = refl
filter_filter p q (x ∷ xs) =
    let rest = filter_filter p q xs in
    elim (split (q x)) [
      | inl so ↦ elim (split (p x)) [ inl so' ↦ rw (so, so') (ap (λ ys. x ∷ ys) rest) | inr not_so' ↦ rw (so, not_so') rest ]
      | inr not_so ↦ rw not_so rest
    ]

new_value : (def : TableDef) (site pk : List ℕ) (cl : ℤ) (x : ColumnDef × Value) → is_key_column x.0 ≡ false → new_cell def site pk cl x ≡ column_change def site pk cl x (pos 1) ∷ []
new_value def site pk cl x e = rw e refl

new_key : (def : TableDef) (site pk : List ℕ) (cl : ℤ) (x : ColumnDef × Value) → is_key_column x.0 ≡ true → new_cell def site pk cl x ≡ []
new_key def site pk cl x e = rw e refl

pub arrival_is : (def : TableDef) (site pk : List ℕ) (cl : ℤ) (row : List Value) → row_change def site pk cl ∷ flat_map (new_cell def site pk cl) (cells_of def row) ≡ arrival def site pk cl row
unfolding arrival value_cells
arrival_is def site pk cl row =
    ap (λ cs. row_change def site pk cl ∷ cs)
    (flat_map_filter (λ x. not (is_key_column x.0)) (λ x. column_change def site pk cl x (pos 1)) (new_cell def site pk cl) (cells_of def row)
    (λ x e. new_value def site pk cl x (not_true _ e))
    (λ x e. new_key def site pk cl x (not_false _ e)))

pub update_is : (def : TableDef) (site : List ℕ) (kept : List Change) (pk : List ℕ) (row : List Value) → flat_map (changed_cell def site kept pk) (cells_of def row) ≡ update def site kept pk row
unfolding update value_cells
update_is def site kept pk row =
    let change = λ (x : ColumnDef × Value). column_change def site pk (length_of kept def.name pk) x (version_of kept def.name pk x.0.name +ℤ pos 1) in
    flat_map_filter (λ x. not (is_key_column x.0) && differs kept def.name pk x) change (changed_cell def site kept pk) (cells_of def row)
    (λ x e. (let p = and_true (not (is_key_column x.0)) (differs kept def.name pk x) e in changed_other def site kept pk x (not_true _ p.0) (not_true _ p.1)))
    (λ x e. (elim (split (is_key_column x.0)) [
      | inl key ↦ changed_key def site kept pk x key
      | inr value ↦ (let same : differs kept def.name pk x ≡ false = rw value at e in changed_same def site kept pk x value (not_false _ same))
    ]))
    ∙ ap (map change) (sym (filter_filter (differs kept def.name pk) (λ x. not (is_key_column x.0)) (cells_of def row)))

any_map : {A B : Type 0} (p : B → Bool) (f : A → B) (xs : List A) → list_any p (map f xs) ≡ list_any (λ x. p (f x)) xs
any_map p f [] = refl
any_map p f (x ∷ xs) = ap (λ b. p (f x) || b) (any_map p f xs)

pub removals_is : (def : TableDef) (site : List ℕ) (kept : List Change) (wanted : List (List Value)) → flat_map (removal def site (keys_in_order (map (key_of def) wanted))) kept ≡ removals def site kept wanted
unfolding removals is_wanted
removals_is def site kept wanted =
    let stays = λ (c : Change). list_any-set_of bytes_total bytes_exact (λ k. same_bytes k c.pk) (map (key_of def) wanted) ∙ any_map (λ k. same_bytes k c.pk) (key_of def) wanted in
    flat_map_filter (λ c. is_present def.name c && not (list_any (λ row. same_bytes (key_of def row) c.pk) wanted)) (λ c. row_change def site c.pk (c.cl +ℤ pos 1))
    (removal def site (keys_in_order (map (key_of def) wanted))) kept
    (λ c e. rw (stays c, e) refl)
    (λ c e. rw (stays c, e) refl)

-- ---- one row's changes say all that is kept of the row

find_run : {A : Type 0} (p q : A → Bool) (xs : List A) → ((x : A) → p x ≡ true → q x ≡ true) → find p (filter q xs) ≡ find p xs
find_run p q [] f = refl
find_run p q (x ∷ xs) f =
    let rest = find_run p q xs f in
    elim (split (q x)) [
      | inl so ↦ rw so (ap (λ o. cond (p x) (Some x) o) rest)
      | inr not_so ↦ elim (split (p x)) [
        | inl here ↦ (let so = f x here in absurd cc)
        | inr not_here ↦ rw (not_so, not_here) rest
      ]
    ]

any_run : {A : Type 0} (p q : A → Bool) (xs : List A) → ((x : A) → p x ≡ true → q x ≡ true) → list_any p (filter q xs) ≡ list_any p xs
any_run p q [] f = refl
any_run p q (x ∷ xs) f =
    let rest = any_run p q xs f in
    elim (split (q x)) [
      | inl so ↦ rw so (ap (λ b. p x || b) rest)
      | inr not_so ↦ elim (split (p x)) [
        | inl here ↦ (let so = f x here in absurd cc)
        | inr not_here ↦ rw (not_so, not_here) rest
      ]
    ]

module _ (table pk : List ℕ) (kept : List Change) where
  abbrev run : List Change
  run = filter (is_of_row table pk) kept

  alive_run : is_alive run table pk ≡ is_alive kept table pk
  unfolding is_alive
  alive_run = any_run (λ c. is_of_row table pk c && is_odd c.cl) (is_of_row table pk) kept (λ c e. (and_true (is_of_row table pk c) (is_odd c.cl) e).0)

  length_run : length_of run table pk ≡ length_of kept table pk
  unfolding length_of
  length_run = ap (λ o. option_map_or (λ c. c.cl) o (pos 0)) (find_run (is_of_row table pk) (is_of_row table pk) kept (λ c e. e))

  cell_run : (cid : List ℕ) → kept_change run table pk cid ≡ kept_change kept table pk cid
  unfolding kept_change
  cell_run cid = find_run (is_cell table pk cid) (is_of_row table pk) kept (λ c e. (and_true (is_of_row table pk c) (same_bytes c.cid cid) e).0)

  version_run : (cid : List ℕ) → version_of run table pk cid ≡ version_of kept table pk cid
  unfolding version_of
  version_run cid = ap (λ o. option_map_or (λ c. c.col_version) o (pos 0)) (cell_run cid)

  value_run : (col : ColumnDef) → column_value run table pk col ≡ column_value kept table pk col
  value_run col = ap (λ o. option_map_or (λ c. shown col c.val) o (default_of col)) (cell_run col.name)

pub row_delta_of_run : (def : TableDef) (site : List ℕ) (kept : List Change) (pk : List ℕ) (row : List Value) → row_delta def site (filter (is_of_row def.name pk) kept) pk row ≡ row_delta def site kept pk row
unfolding row_delta update
row_delta_of_run def site kept pk row =
    let alive = alive_run def.name pk kept in
    let len = length_run def.name pk kept in
    let version = version_run def.name pk kept in
    let value = value_run def.name pk kept in
    λ i. cond (alive i)
    (map (λ cell. column_change def site pk (len i) cell (version cell.0.name i +ℤ pos 1)) (filter (λ cell. not (is_eq (value_cmp cell.1 (value cell.0 i)))) (value_cells def row)))
    (arrival def site pk (len i +ℤ pos 1) row)

-- the changes at the key of a row
abbrev pub keyed : TableDef → List ℕ → List Change → List ℕ × List Value → List Change
keyed def site kept x = row_delta def site kept x.0 x.1

pub rows_are : (def : TableDef) (site : List ℕ) (kept : List Change) (wanted : List (List Value))
    → flat_map (keyed def site kept) (zip (map (key_of def) wanted) wanted) ≡ flat_map (λ row. row_delta def site kept (key_of def row) row) wanted
rows_are def site kept [] = refl
rows_are def site kept (row ∷ rows) = ap (λ cs. row_delta def site kept (key_of def row) row ++ cs) (rows_are def site kept rows)

-- ---- the whole

-- the changes of a write in the order in which they are found
abbrev pub found : TableDef → List ℕ → List Change → List (List Value) → List Change
found def site kept wanted = flat_map (λ row. row_delta def site kept (key_of def row) row) wanted ++ removals def site kept wanted

pub delta_passes : (def : TableDef) (site : List ℕ) (kept : List Change) (wanted : List (List Value))
    → passes_limit (delta def site kept wanted)
    ≡ (passes_limit (flat_map (λ row. row_delta def site kept (key_of def row) row) wanted) || passes_limit (removals def site kept wanted))
unfolding delta passes_limit
delta_passes def site kept wanted =
    list_any-set_of change_total change_exact (λ c. is_past_limit c.cl || is_past_limit c.col_version) (found def site kept wanted)
    ∙ list_any-append (λ c. is_past_limit c.cl || is_past_limit c.col_version) (flat_map (λ row. row_delta def site kept (key_of def row) row) wanted) (removals def site kept wanted)

-- what sorting makes of the changes that were found
pub delta_is : (def : TableDef) (site : List ℕ) (kept : List Change) (wanted : List (List Value)) (ws xs ys : List Change) → ws ≡ found def site kept wanted
    → IsPermutation ws xs → IsSorted change_cmp xs → IsFiltered (DiffersFromLast (eq_by_cmp change_cmp)) [] xs ys → ys ≡ delta def site kept wanted
unfolding delta
delta_is def site kept wanted ws xs ys made moved sorted filtered = sorted_set change_total change_exact ws xs ys moved sorted filtered ∙ ap (set_of change_cmp) made
