-- The changes of one key in a list that is sorted by keys, and the row that they show.
use Rattle.std.proofs.Common.{◌≡◌, ℕ, ◌-◌, ◌≤◌, pos, Bool, true, false, ◌&&◌, not, List, [], length, take, drop, map, refl, sym, ap, ◌∙◌, Ordering, Less, Equal, Greater, arith}
use Rattle.std.specs.Prelude.{filter, find, IsTrue}
use Rattle.std.specs.List.{IsAllAdjacentAnswer}
use Rattle.std.specs.List.Sorted.{IsSortedBy, IsPartitionedBy, IsPartitionPoint, IsStableBy, ties}
use Rattle.std.specs.Ordering.{ordering_reverse, is_eq, is_lt, is_le}
use Rattle.std.specs.Cmp.{IsTotalOrder, IsStrictWeakOrder}
use Rattle.std.proofs.lemmas.Bool.{cases_lt}
use Rattle.std.proofs.Common.{inl, inr}
use Rattle.std.proofs.lemmas.Cmp.{alike_right}
use Rattle.std.proofs.lemmas.List.Elements.{filter_agree}
use Rattle.std.proofs.lemmas.List.Sorted.{ranks_by, sorted_far}
use Rattle.cr_value.specs.declared.value.Value.TheVariants.{Null}
use Rattle.cr_value.specs.Order.{bytes_cmp}
use Rattle.cr_value.specs.OrderLaws.{bytes_total}
use Rattle.cr_lattice.specs.declared.change.Change.{Change}
use Rattle.cr_lattice.specs.declared.table.ColumnDef.{ColumnDef}
use Rattle.cr_lattice.specs.declared.table.TableDef.{TableDef}
use Rattle.cr_lattice.specs.Check.{same_bytes}
use Rattle.cr_lattice.specs.Rows.{is_of_row, is_under, is_below, is_below_or_under, has_lesser_key, SameByRow, is_cell, kept_change, cell, row, rows, alive_keys}
use Rattle.cr_lattice.proofs.Filters.{find-filter, filter-filter, filter-part}
use Rattle.cr_lattice.proofs.Tested.{and_true}

-- ---- an order and a bound

less_is : (r : Ordering) → is_lt r ≡ true → r ≡ Less
less_is Less e = refl
less_is Equal e = absurd cc
less_is Greater e = absurd cc

lt_le : (r : Ordering) → is_lt r ≡ true → is_le r ≡ true
lt_le Less e = refl
lt_le Equal e = refl
lt_le Greater e = absurd cc

turned_le : (r s : Ordering) → r ≡ ordering_reverse s → is_lt s ≡ false → is_le r ≡ true
turned_le r Less e up = absurd cc
turned_le r Equal e up = ap is_le e
turned_le r Greater e up = ap is_le e

lt_apart : (r : Ordering) → is_lt r ≡ true → is_eq r ≡ false
lt_apart Less e = refl
lt_apart Equal e = absurd cc
lt_apart Greater e = absurd cc

between_is : (r : Ordering) → is_lt r ≡ false → is_le r ≡ true → is_eq r ≡ true
between_is Less e f = absurd cc
between_is Equal e f = refl
between_is Greater e f = absurd cc

above_apart : (r : Ordering) → is_le r ≡ false → is_eq r ≡ false
above_apart Less e = absurd cc
above_apart Equal e = absurd cc
above_apart Greater e = refl

not_both : (r : Ordering) → is_lt r ≡ true → is_le r ≡ false → ⊥
not_both Less e f = absurd cc
not_both Equal e f = absurd cc
not_both Greater e f = absurd cc

module _ {K : Type 0} {R : K → K → Ordering} (o : IsTotalOrder R) where
  -- a is not above b, and b is below k
  lower : (a b k : K) → is_lt (R b a) ≡ false → is_lt (R b k) ≡ true → is_lt (R a k) ≡ true
  lower a b k up low =
      elim (R b a) as (λ r. R b a ≡ r → is_lt (R a k) ≡ true) [
        | Less ↦ λ e. (let both : true ≡ false = sym (ap is_lt e) ∙ up in absurd cc)
        | Equal ↦ λ e. ap is_lt (sym (o.congr b a k e)) ∙ low
        | Greater ↦ λ e. ap is_lt (o.trans a b k (o.antisymm a b ∙ ap ordering_reverse e) (less_is _ low))
      ] refl

  -- a is not above b, and b is not above k
  no_higher : (a b k : K) → is_lt (R b a) ≡ false → is_le (R b k) ≡ true → is_le (R a k) ≡ true
  no_higher a b k up low =
      elim (R b k) as (λ r. R b k ≡ r → is_le (R a k) ≡ true) [
        | Less ↦ λ e. lt_le _ (lower a b k up (ap is_lt e))
        | Equal ↦ λ e. ap is_le (sym (alike_right o b k a e)) ∙ turned_le _ _ (o.antisymm a b) up
        | Greater ↦ λ e. (let both : true ≡ false = sym low ∙ ap is_le e in absurd cc)
      ] refl

-- ---- the changes under a key stand together

-- some change under a key
abbrev under : List ℕ → Change
under pk = record { table = []; pk = pk; cid = []; val = Null; col_version = pos 0; site = []; cl = pos 0 }

pub by_key_order : IsStrictWeakOrder has_lesser_key
by_key_order = ranks_by bytes_total (λ c. c.pk)

pub partitioned_below : (xs : List Change) (pk : List ℕ) → IsSortedBy has_lesser_key xs → IsPartitionedBy (is_below pk) xs
partitioned_below xs pk sorted = λ i j d le lt e. lower bytes_total _ _ pk (sorted_far has_lesser_key by_key_order xs sorted i j d le lt) e

pub partitioned_to : (xs : List Change) (pk : List ℕ) → IsSortedBy has_lesser_key xs → IsPartitionedBy (is_below_or_under pk) xs
partitioned_to xs pk sorted = λ i j d le lt e. no_higher bytes_total _ _ pk (sorted_far has_lesser_key by_key_order xs sorted i j d le lt) e

not_true : (b : Bool) → true ≡ not b → b ≡ false
not_true true e = absurd cc
not_true false e = refl

-- a look at all neighbours tells whether changes are sorted
pub sorted_if_told : (xs : List Change) (r : Bool) → IsAllAdjacentAnswer (λ x y b. b ≡ not (has_lesser_key y x)) xs r → IsTrue r → IsSortedBy has_lesser_key xs
sorted_if_told xs true all t = λ k d low lt. not_true _ (all k d lt)
sorted_if_told xs false all t = absurd cc

-- a partition point by a test
abbrev Splits : (Change → Bool) → List Change → ℕ → Type 0
Splits p xs i = IsPartitionPoint (λ y. p y ≡ true) (λ y. p y ≡ false) xs i

pub start_le_end : (xs : List Change) (pk : List ℕ) (s e : ℕ) → s ≤ length xs → Splits (is_below pk) xs s → Splits (is_below_or_under pk) xs e → s ≤ e
start_le_end xs pk s e fits below to =
    elim (cases_lt e s) [
      | inl lt ↦ absurd (not_both _ (below.0 e (under pk) (omega arith) lt) (to.1 e (under pk) (omega arith) (omega arith)))
      | inr le ↦ le
    ]

pub part_is_filter : (xs : List Change) (pk : List ℕ) (s e : ℕ) → s ≤ length xs → e ≤ length xs → Splits (is_below pk) xs s → Splits (is_below_or_under pk) xs e
    → take (e - s) (drop s xs) ≡ filter (is_under pk) xs
part_is_filter xs pk s e fits fits' below to =
    filter-part (is_under pk) xs s e (start_le_end xs pk s e fits below to) fits'
    (λ k d lo hi. lt_apart _ (below.0 k d lo hi))
    (λ k d lo hi. between_is _ (below.1 k d lo (omega arith)) (to.0 k d (omega arith) hi))
    (λ k d lo hi. above_apart _ (to.1 k d lo hi))

-- ---- a stable sort by keys keeps each row's changes in their order

tied_is : (r : Ordering) → (not (is_lt (ordering_reverse r)) && not (is_lt r)) ≡ is_eq r
tied_is Less = refl
tied_is Equal = refl
tied_is Greater = refl

ties_under : (pk : List ℕ) (c : Change) → ties has_lesser_key (under pk) c ≡ is_under pk c
ties_under pk c = ap (λ r. not (is_lt r) && not (is_lt (bytes_cmp c.pk pk))) (bytes_total.antisymm pk c.pk) ∙ tied_is (bytes_cmp c.pk pk)

and_back : (a b : Bool) → (a && b) ≡ (b && a)
and_back true true = refl
and_back true false = refl
and_back false true = refl
and_back false false = refl

and_again : (a b : Bool) → (a && (a && b)) ≡ (a && b)
and_again true b = refl
and_again false b = refl

abbrev pub of_table : List ℕ → Change → Bool
of_table table c = same_bytes c.table table

row_by_parts : (table pk : List ℕ) (xs : List Change) → filter (is_of_row table pk) xs ≡ filter (of_table table) (filter (is_under pk) xs)
row_by_parts table pk xs =
    filter_agree (is_of_row table pk) (λ c. is_under pk c && of_table table c) (λ c. and_back (of_table table c) (is_under pk c)) xs
    ∙ sym (filter-filter (of_table table) (is_under pk) xs)

pub row_of_table : (table pk : List ℕ) (xs : List Change) → filter (is_of_row table pk) (filter (of_table table) xs) ≡ filter (is_of_row table pk) xs
row_of_table table pk xs =
    filter-filter (is_of_row table pk) (of_table table) xs
    ∙ filter_agree (λ c. of_table table c && is_of_row table pk c) (is_of_row table pk) (λ c. and_again (of_table table c) (is_under pk c)) xs

pub sorted_by_row : (table : List ℕ) (kept xs ys : List Change) → xs ≡ filter (of_table table) kept → IsStableBy has_lesser_key xs ys → SameByRow table ys kept
sorted_by_row table kept xs ys made stable = λ pk. (
    let agree = filter_agree (ties has_lesser_key (under pk)) (is_under pk) (ties_under pk) in
    row_by_parts table pk ys
    ∙ ap (filter (of_table table)) (sym (agree ys) ∙ stable (under pk) ∙ agree xs)
    ∙ sym (row_by_parts table pk xs)
    ∙ ap (filter (is_of_row table pk)) made
    ∙ row_of_table table pk kept)

-- ---- rows

cell_same : (ks xs : List Change) (table pk : List ℕ) (col : ColumnDef) → kept_change ks table pk col.name ≡ kept_change xs table pk col.name → cell ks table pk col ≡ cell xs table pk col
cell_same ks xs table pk col e = simp e

-- the same kept changes of its columns make the same row
row_same : (ks xs : List Change) (def : TableDef) (pk : List ℕ) → ((cid : List ℕ) → kept_change ks def.name pk cid ≡ kept_change xs def.name pk cid) → row ks def pk ≡ row xs def pk
unfolding row
row_same ks xs def pk f = ap (λ g. map g def.columns) (λ i col. cell_same ks xs def.name pk col (f col.name) i)

pub row-under : (xs : List Change) (def : TableDef) (pk : List ℕ) → row (filter (is_under pk) xs) def pk ≡ row xs def pk
unfolding kept_change
row-under xs def pk =
    row_same (filter (is_under pk) xs) xs def pk
    (λ cid. find-filter (is_cell def.name pk cid) (is_under pk) (λ c e. (and_true _ _ (and_true _ _ e).0).1) xs)

row-same_by_row : (ks xs : List Change) (def : TableDef) (pk : List ℕ) → SameByRow def.name ks xs → row ks def pk ≡ row xs def pk
unfolding kept_change
row-same_by_row ks xs def pk same =
    row_same ks xs def pk
    (λ cid. (
    let found = find-filter (is_cell def.name pk cid) (is_of_row def.name pk) (λ c e. (and_true _ _ e).0) in
    sym (found ks) ∙ ap (find (is_cell def.name pk cid)) (same pk) ∙ found xs))

pub rows-same_by_row : (ks xs : List Change) (def : TableDef) → SameByRow def.name ks xs → map (row ks def) (alive_keys xs def.name) ≡ rows xs def
unfolding rows
rows-same_by_row ks xs def same = ap (λ g. map g (alive_keys xs def.name)) (λ i pk. row-same_by_row ks xs def pk same i)
