-- Parts of sorted lists: the run of elements between two points, and look-ups.
use Rattle.std.proofs.Common.{◌≡◌, inl, inr, ℕ, zero, suc, ◌-◌, ◌≤◌, ◌<◌, Bool, true, false, not, ◌&&◌, ◌||◌, List, [], ◌∷◌, length, get_or, take, drop, pos, Result, Ok, Err, is_ok, refl, sym, ap, ◌∙◌, arith, Ordering, Less, Equal, Greater}
use Rattle.std.specs.Prelude.{filter, slice_range}
use Rattle.std.specs.List.{list_any, AllByRecursion, AllWithin}
use Rattle.std.specs.List.Sorted.{IsStrictlySortedBy, IsPartitionedBy, IsNonDecreasingBy, IsBinarySearchResult, IsSearchInRange}
use Rattle.std.specs.Ordering.{ordering_then, ordering_index, is_lt, is_le, is_eq, is_gt}
use Rattle.std.specs.Cmp.{IsTotalOrder}
use Rattle.std.proofs.lemmas.Bool.{cases_lt}
use Rattle.std.proofs.lemmas.Cmp.{upto, alike_right}
use Rattle.cr_value.specs.declared.value.Value.TheVariants.{Null}
use Rattle.cr_value.specs.Order.{bytes_cmp}
use Rattle.cr_lattice.specs.declared.change.Change.{Change}
use Rattle.cr_lattice.specs.Change.{row_cmp, change_cmp}
use Rattle.cr_lattice.specs.ChangeOrder.{row_total}
use Rattle.cr_lattice.specs.Keep.{keep}
use Rattle.cr_lattice.specs.Rows.{is_of_row}
use Rattle.cr_lattice.proofs.KeepLaws.{sorted-keep}
use Rattle.cr_delta.specs.Run.{row_order}

-- ---- by index

pub all_at : {A : Type 0} (P : A → Type 0) (xs : List A) → AllByRecursion P xs → (k : ℕ) (d : A) → k < length xs → P (get_or xs k d)
all_at P [] all k d lt = absurd (omega arith)
all_at P (x ∷ xs) all zero d lt = all.0
all_at P (x ∷ xs) all (suc k) d lt = all_at P xs all.1 k d (omega arith)

sorted_at : {A : Type 0} (R : A → A → Ordering) (xs : List A) → IsStrictlySortedBy R xs → (i j : ℕ) (d : A) → i < j → j < length xs → R (get_or xs i d) (get_or xs j d) ≡ Less
unfolding IsStrictlySortedBy
sorted_at R [] s i j d lt below = absurd (omega arith)
sorted_at R (x ∷ xs) s i zero d lt below = absurd (omega arith)
sorted_at R (x ∷ xs) s zero (suc j) d lt below = all_at (λ y. R x y ≡ Less) xs s.0 j d (omega arith)
sorted_at R (x ∷ xs) s (suc i) (suc j) d lt below = sorted_at R xs s.1 i j d (omega arith) (omega arith)

-- a part of the rest of a list
later : {A : Type 0} (P : A → Type 0) (x : A) (xs : List A) (low high : ℕ) → AllWithin P (x ∷ xs) (suc low) (suc high) → AllWithin P xs low high
later P x xs low high all = λ k d a b. all (suc k) d (omega arith) (omega arith)

none_pass : {A : Type 0} (q : A → Bool) (xs : List A) → AllWithin (λ x. q x ≡ false) xs 0 (length xs) → [] ≡ filter q xs
none_pass q [] all = refl
none_pass q (x ∷ xs) all =
    let no : q x ≡ false = all zero x (omega arith) (omega arith) in
    rw no (none_pass q xs (later (λ y. q y ≡ false) x xs 0 (length xs) (λ k d a b. all k d (omega arith) b)))

-- the elements up to a point are those that pass a test that passes there alone
front_is : {A : Type 0} (q : A → Bool) (xs : List A) (high : ℕ) → high ≤ length xs
    → AllWithin (λ x. q x ≡ true) xs 0 high → AllWithin (λ x. q x ≡ false) xs high (length xs) → take high xs ≡ filter q xs
front_is q xs zero within inside after = none_pass q xs after
front_is q [] (suc high) within inside after = absurd (omega arith)
front_is q (x ∷ xs) (suc high) within inside after =
    let yes_x : q x ≡ true = inside zero x (omega arith) (omega arith) in
    let rest = front_is q xs high (omega arith) (later (λ y. q y ≡ true) x xs 0 high (λ k d a b. inside k d (omega arith) b)) (later (λ y. q y ≡ false) x xs high (length xs) after) in
    rw yes_x (ap (λ ys. x ∷ ys) rest)

-- the elements between two points are those that pass a test that passes there alone
pub run_is : {A : Type 0} (q : A → Bool) (xs : List A) (low high : ℕ) → low ≤ high → high ≤ length xs
    → AllWithin (λ x. q x ≡ false) xs 0 low → AllWithin (λ x. q x ≡ true) xs low high → AllWithin (λ x. q x ≡ false) xs high (length xs)
    → slice_range xs low high ≡ filter q xs
run_is q xs zero high le within before inside after = let all : high - 0 ≡ high = omega arith in ap (λ n. take n xs) all ∙ front_is q xs high within inside after
run_is q xs (suc low) zero le within before inside after = absurd (omega arith)
run_is q [] (suc low) (suc high) le within before inside after = absurd (omega arith)
run_is q (x ∷ xs) (suc low) (suc high) le within before inside after =
    let no : q x ≡ false = before zero x (omega arith) (omega arith) in
    let rest = run_is q xs low high (omega arith) (omega arith)
    (later (λ y. q y ≡ false) x xs 0 low (λ k d a b. before k d (omega arith) b))
    (later (λ y. q y ≡ true) x xs low high inside) (later (λ y. q y ≡ false) x xs high (length xs) after) in
    let same : suc high - suc low ≡ high - low = omega arith in
    ap (λ n. take n (drop low xs)) same ∙ rw no rest

-- ---- changes of one row

-- a change of the row
stand_in : List ℕ → List ℕ → Change
stand_in table pk = record { table = table; pk = pk; cid = []; val = Null; col_version = pos 0; site = []; cl = pos 0 }

row_order-row_cmp : (table pk : List ℕ) (c : Change) → row_order table pk c ≡ row_cmp c (stand_in table pk)
unfolding row_order row_cmp stand_in
row_order-row_cmp table pk c = refl

first_less : (a b : Ordering) → ordering_then a b ≡ Less → is_gt a ≡ false
first_less Less b e = refl
first_less Equal b e = refl
first_less Greater b e = absurd cc

rows_rise : (c d : Change) → change_cmp c d ≡ Less → is_gt (row_cmp c d) ≡ false
unfolding change_cmp
rows_rise c d e = first_less (row_cmp c d) _ e

le_gt : (a : Ordering) → is_le a ≡ not (is_gt a)
le_gt Less = refl
le_gt Equal = refl
le_gt Greater = refl

lt_true : (a : Ordering) → is_lt a ≡ true → a ≡ Less
lt_true Less e = refl
lt_true Equal e = absurd cc
lt_true Greater e = absurd cc

not_true : (b : Bool) → not b ≡ true → b ≡ false
not_true true e = absurd cc
not_true false e = refl

before_row : (c d e : Change) → is_gt (row_cmp c d) ≡ false → row_cmp d e ≡ Less → row_cmp c e ≡ Less
before_row c d e h less =
    elim (row_cmp c d) as (λ r. row_cmp c d ≡ r → is_gt r ≡ false → row_cmp c e ≡ Less) [
      | Less ↦ λ is _. row_total.trans c d e is less
      | Equal ↦ λ is _. row_total.congr c d e is ∙ less
      | Greater ↦ λ is no. absurd cc
    ] refl h

-- rows rise along what is kept
rise_at : (kept : List Change) → keep kept ≡ kept → (i j : ℕ) (d : Change) → i < j → j < length kept → is_gt (row_cmp (get_or kept i d) (get_or kept j d)) ≡ false
rise_at kept is i j d lt below = rows_rise _ _ (sorted_at change_cmp kept (rw is at (sorted-keep kept)) i j d lt below)

pub before_is_partitioned : (table pk : List ℕ) (kept : List Change) → keep kept ≡ kept → IsPartitionedBy (λ c. is_lt (row_order table pk c)) kept
before_is_partitioned table pk kept is i j d le below e =
    elim (cases_lt i j) [
      | inl lt ↦ (
          let less = before_row (get_or kept i d) (get_or kept j d) (stand_in table pk) (rise_at kept is i j d lt below) (sym (row_order-row_cmp table pk (get_or kept j d)) ∙ lt_true _ e) in
          ap is_lt (row_order-row_cmp table pk (get_or kept i d) ∙ less))
      | inr ge ↦ (let same : i ≡ j = omega arith in rw same e)
    ]

pub upto_is_partitioned : (table pk : List ℕ) (kept : List Change) → keep kept ≡ kept → IsPartitionedBy (λ c. is_le (row_order table pk c)) kept
upto_is_partitioned table pk kept is i j d le below e =
    elim (cases_lt i j) [
      | inl lt ↦ (
          let x = get_or kept i d in
          let y = get_or kept j d in
          let no : is_gt (row_cmp y (stand_in table pk)) ≡ false = not_true _ (sym (le_gt _) ∙ ap is_le (sym (row_order-row_cmp table pk y)) ∙ e) in
          ap is_le (row_order-row_cmp table pk x) ∙ le_gt _ ∙ ap not (upto row_total x y (stand_in table pk) (rise_at kept is i j d lt below) no))
      | inr ge ↦ (let same : i ≡ j = omega arith in rw same e)
    ]

eq_then : (a b : Ordering) → is_eq (ordering_then a b) ≡ (is_eq a && is_eq b)
eq_then Less b = refl
eq_then Equal b = refl
eq_then Greater b = refl

row_order-is_of_row : (table pk : List ℕ) (c : Change) → is_eq (row_order table pk c) ≡ is_of_row table pk c
unfolding row_order
row_order-is_of_row table pk c = eq_then (bytes_cmp c.table table) (bytes_cmp c.pk pk)

eq_before : (a : Ordering) → is_lt a ≡ true → is_eq a ≡ false
eq_before Less e = refl
eq_before Equal e = absurd cc
eq_before Greater e = refl

eq_between : (a : Ordering) → is_lt a ≡ false → is_le a ≡ true → is_eq a ≡ true
eq_between Less e f = absurd cc
eq_between Equal e f = refl
eq_between Greater e f = absurd cc

eq_after : (a : Ordering) → is_le a ≡ false → is_eq a ≡ false
eq_after Less e = absurd cc
eq_after Equal e = absurd cc
eq_after Greater e = refl

le_of_lt : (a : Ordering) → is_lt a ≡ true → is_le a ≡ true
le_of_lt Less e = refl
le_of_lt Equal e = absurd cc
le_of_lt Greater e = absurd cc

-- where the changes of a row begin and end
pub record Bounds (table pk : List ℕ) (kept : List Change) (start end : ℕ) : Type 0 where
  pub before : AllWithin (λ c. is_lt (row_order table pk c) ≡ true) kept 0 start
  pub from_start : AllWithin (λ c. is_lt (row_order table pk c) ≡ false) kept start (length kept)
  pub to_end : AllWithin (λ c. is_le (row_order table pk c) ≡ true) kept 0 end
  pub after : AllWithin (λ c. is_le (row_order table pk c) ≡ false) kept end (length kept)
  pub start_within : start ≤ length kept
  pub end_within : end ≤ length kept

pub start_le_end : (table pk : List ℕ) (kept : List Change) (start end : ℕ) → Bounds table pk kept start end → start ≤ end
start_le_end table pk kept start end b =
    elim (cases_lt end start) [
      | inl lt ↦ (
          let within = b.start_within in
          let d = stand_in table pk in
          let so = le_of_lt _ (b.before end d (omega arith) lt) in
          let not_so = b.after end d (omega arith) (omega (arith, within)) in
          absurd cc)
      | inr ge ↦ ge
    ]

pub run_of_row : (table pk : List ℕ) (kept : List Change) (start end : ℕ) → Bounds table pk kept start end → slice_range kept start end ≡ filter (is_of_row table pk) kept
run_of_row table pk kept start end b =
    let le = start_le_end table pk kept start end b in
    let within = b.end_within in
    run_is (is_of_row table pk) kept start end le within
    (λ k d low high. sym (row_order-is_of_row table pk (get_or kept k d)) ∙ eq_before _ (b.before k d low high))
    (λ k d low high. sym (row_order-is_of_row table pk (get_or kept k d)) ∙ eq_between _ (b.from_start k d low (omega (arith, high, within))) (b.to_end k d (omega arith) high))
    (λ k d low high. sym (row_order-is_of_row table pk (get_or kept k d)) ∙ eq_after _ (b.after k d low high))

-- ---- look-ups

module _ {A : Type 0} {R : A → A → Ordering} (o : IsTotalOrder R) where
  less_index : (a b y : A) → R a b ≡ Less → ordering_index (R a y) ≤ ordering_index (R b y)
  less_index a b y less =
      elim (R b y) as (λ r. R b y ≡ r → ordering_index (R a y) ≤ ordering_index r) [
        | Less ↦ λ e. (let is : R a y ≡ Less = o.trans a b y less e in rw is (omega arith))
        | Equal ↦ λ e. (let is : R a y ≡ Less = sym (alike_right o b y a e) ∙ less in rw is (omega arith))
        | Greater ↦ λ e. at_most (R a y)
      ] refl
    where
      at_most : (r : Ordering) → ordering_index r ≤ 2
      at_most Less = omega arith
      at_most Equal = omega arith
      at_most Greater = omega arith

  rises : (xs : List A) (y : A) → IsStrictlySortedBy R xs → IsNonDecreasingBy (λ x. ordering_index (R x y)) xs
  rises xs y s i j d le below =
      elim (cases_lt i j) [
        | inl lt ↦ less_index _ _ y (sorted_at R xs s i j d lt below)
        | inr ge ↦ (let same : i ≡ j = omega arith in rw same (omega arith))
      ]

  any_at : (p : A → Bool) (xs : List A) (i : ℕ) → i < length xs → ((d : A) → p (get_or xs i d) ≡ true) → list_any p xs ≡ true
  any_at p [] i lt h = absurd (omega arith)
  any_at p (x ∷ xs) zero lt h = rw (h x) refl
  any_at p (x ∷ xs) (suc i) lt h = elim (p x) as (λ b. (b || list_any p xs) ≡ true) [ true ↦ refl | false ↦ any_at p xs i (omega arith) h ]

  none_at : (p : A → Bool) (xs : List A) → ((i : ℕ) (d : A) → i < length xs → p (get_or xs i d) ≡ false) → list_any p xs ≡ false
  none_at p [] h = refl
  none_at p (x ∷ xs) h =
      let first : p x ≡ false = h zero x (omega arith) in
      rw first (none_at p xs (λ i d lt. h (suc i) d (omega arith)))

  -- what a binary search says of a sorted list
  pub looked_up : (xs : List A) (y : A) (r : Result ℕ ℕ) → IsStrictlySortedBy R xs → IsSearchInRange r (length xs) → IsBinarySearchResult (λ x. R x y) xs r → is_ok r ≡ list_any (λ x. is_eq (R x y)) xs
  looked_up xs y (Ok i) s range found = sym (any_at (λ x. is_eq (R x y)) xs i range (λ d. ap is_eq (found d)))
  looked_up xs y (Err i) s range missing =
      let point = missing (rises xs y s) in
      sym (none_at (λ x. is_eq (R x y)) xs (λ k d lt. elim (cases_lt k i) [
        | inl before ↦ ap is_eq (point.0 k d (omega arith) before)
        | inr after ↦ ap is_eq (point.1 k d after lt)
      ]))
