-- Lists of changes that stand by their keys, and parts of them that lie one behind another.
use Rattle.std.proofs.Common.{◌≡◌, ℕ, zero, suc, ◌+◌, ◌-◌, ◌<◌, ◌≤◌, arith, Bool, true, false, ◌&&◌, ◌||◌, not, cond, List, [], ◌∷◌, ◌++◌, length, take, drop, Option, Some, None, refl, sym, ap, subst, ◌∙◌, Ordering, Less, Equal, Greater}
use Rattle.std.specs.Prelude.{filter, slice_index_or}
use Rattle.std.specs.List.{AllByRecursion}
use Rattle.std.specs.List.Sorted.{IsSortedBy, IsStrictlySortedBy, IsPartitionPoint}
use Rattle.std.specs.Ordering.{is_le, is_lt, ordering_reverse, ordering_then}
use Rattle.std.proofs.lemmas.List.{take_rest}
use Rattle.cr_value.specs.Order.{bytes_cmp}
use Rattle.cr_value.specs.OrderLaws.{bytes_total, bytes_exact}
use Rattle.cr_lattice.specs.declared.change.Change.{Change}
use Rattle.cr_lattice.specs.Change.{change_cmp, row_cmp}
use Rattle.cr_lattice.specs.Check.{same_bytes}
use Rattle.cr_lattice.specs.Rows.{has_lesser_key, is_below}
use Rattle.cr_lattice.proofs.Filters.{filter-part}
use Rattle.cr_lattice.proofs.Tested.{and_true}
use Rattle.cr_delta.proofs.Members.{same_is}
use Rattle.cr_cells.specs.Pages.{above, between}
use Rattle.cr_tables.proofs.Walks.{All, Rises, self_compared}

-- ---- orders of keys

lt_is : (o : Ordering) → is_lt o ≡ true → o ≡ Less
lt_is Less e = refl
lt_is Equal e = absurd cc
lt_is Greater e = absurd cc

-- above a key that is not above b's
pub lt_le : (a k b : List ℕ) → is_lt (bytes_cmp a k) ≡ true → is_le (bytes_cmp k b) ≡ true → is_lt (bytes_cmp a b) ≡ true
lt_le a k b low high =
    elim (bytes_cmp k b) as (λ o. bytes_cmp k b ≡ o → is_le o ≡ true → is_lt (bytes_cmp a b) ≡ true) [
      | Less ↦ λ e f. ap is_lt (bytes_total.trans a k b (lt_is _ low) e)
      | Equal ↦ λ e f. subst (λ (x : List ℕ). is_lt (bytes_cmp a x) ≡ true) (bytes_exact k b e) low
      | Greater ↦ λ e f. absurd cc
    ] refl high

turned : (o : Ordering) → not (is_le o) ≡ is_lt (ordering_reverse o)
turned Less = refl
turned Equal = refl
turned Greater = refl

pub not_le : (k b : List ℕ) → not (is_le (bytes_cmp k b)) ≡ is_lt (bytes_cmp b k)
not_le k b = turned (bytes_cmp k b) ∙ ap is_lt (sym (bytes_total.antisymm b k))

not_lt : (o : Ordering) → is_lt (ordering_reverse o) ≡ true → is_lt o ≡ false
not_lt Less e = absurd cc
not_lt Equal e = refl
not_lt Greater e = refl

lt_turned : (a b : List ℕ) → is_lt (bytes_cmp a b) ≡ true → is_lt (bytes_cmp b a) ≡ false
lt_turned a b e = not_lt (bytes_cmp b a) (ap is_lt (sym (bytes_total.antisymm a b)) ∙ e)

-- ---- lists in the order of changes, of one table

abbrev pub AreOf : List ℕ → List Change → Type 0
AreOf table cs = All (λ c. same_bytes c.table table ≡ true) cs

stays_low : (t o p : Ordering) → t ≡ Equal → ordering_then (ordering_then t o) p ≡ Less → is_lt (ordering_reverse o) ≡ false
stays_low Less o p e less = absurd cc
stays_low Greater o p e less = absurd cc
stays_low Equal Less p e less = refl
stays_low Equal Equal p e less = refl
stays_low Equal Greater p e less = absurd cc

no_lower : (table : List ℕ) (c d : Change) → same_bytes c.table table ≡ true → same_bytes d.table table ≡ true → change_cmp c d ≡ Less → is_below c.pk d ≡ false
unfolding change_cmp row_cmp
no_lower table c d of of' less =
    let one : c.table ≡ d.table = same_is c.table table of ∙ sym (same_is d.table table of') in
    let equal : bytes_cmp c.table d.table ≡ Equal = ap (bytes_cmp c.table) (sym one) ∙ self_compared c.table in
    ap is_lt (bytes_total.antisymm d.pk c.pk) ∙ stays_low (bytes_cmp c.table d.table) (bytes_cmp c.pk d.pk) _ equal less

pub rises_of : (table : List ℕ) (cs : List Change) → AreOf table cs → IsStrictlySortedBy change_cmp cs → Rises cs
unfolding IsStrictlySortedBy
rises_of table [] of sorted = tt
rises_of table (c ∷ cs) of sorted = (each cs of.1 sorted.0, rises_of table cs of.1 sorted.1) where
  each : (ds : List Change) → AreOf table ds → AllByRecursion (λ d. change_cmp c d ≡ Less) ds → All (λ d. is_below c.pk d ≡ false) ds
  each [] of' less = tt
  each (d ∷ ds) of' less = (no_lower table c d of.0 of'.0 less.0, each ds of'.1 less.1)

-- each is not below the one before it
adjacent : (cs : List Change) → Rises cs → (k : ℕ) (d : Change) → k + 1 < length cs → has_lesser_key (slice_index_or cs (k + 1) d) (slice_index_or cs k d) ≡ false
adjacent [] up k d lt = absurd (omega (arith, lt))
adjacent (c ∷ []) up k d lt = absurd (omega (arith, lt))
adjacent (c ∷ e ∷ cs) up zero d lt = up.0.0
adjacent (c ∷ e ∷ cs) up (suc k) d lt =
    subst (λ (n : ℕ). has_lesser_key (slice_index_or (c ∷ e ∷ cs) n d) (slice_index_or (e ∷ cs) k d) ≡ false) {x = suc (k + 1)} {y = suc k + 1} (omega arith)
    (adjacent (e ∷ cs) up.1 k d (omega (arith, lt)))

pub sorted_of : (cs : List Change) → Rises cs → IsSortedBy has_lesser_key cs
sorted_of cs up = λ k d low lt. adjacent cs up k d lt

-- ---- cut at a key

abbrev Splits : (Change → Bool) → List Change → ℕ → Type 0
Splits p xs i = IsPartitionPoint (λ y. p y ≡ true) (λ y. p y ≡ false) xs i

not_so : (b : Bool) → b ≡ true → not b ≡ false
not_so b e = ap not e

so : (b : Bool) → b ≡ false → not b ≡ true
so b e = ap not e

module _ (p : Change → Bool) (xs : List Change) (e : ℕ) (fits : e ≤ length xs) (to : Splits p xs e) where
  pub front_is : take e xs ≡ filter p xs
  front_is =
      (let same : e ≡ e - 0 = omega arith in ap (λ (n : ℕ). take n xs) same)
      ∙ filter-part p xs 0 e (omega arith) fits (λ k d lo hi. absurd (omega (arith, hi))) (λ k d lo hi. to.0 k d lo hi) (λ k d lo hi. to.1 k d lo hi)

  pub back_is : drop e xs ≡ filter (λ c. not (p c)) xs
  back_is =
      sym (take_rest xs e)
      ∙ filter-part (λ c. not (p c)) xs e (length xs) fits (omega arith) (λ k d lo hi. not_so _ (to.0 k d lo hi)) (λ k d lo hi. so _ (to.1 k d lo hi))
      (λ k d lo hi. absurd (omega (arith, lo, hi)))

pub all_stay : (xs : List Change) → filter (λ c. true) xs ≡ xs
all_stay [] = refl
all_stay (x ∷ xs) = ap (λ (ys : List Change). x ∷ ys) (all_stay xs)

pub none_stays : (xs : List Change) → filter (λ c. false) xs ≡ []
none_stays [] = refl
none_stays (x ∷ xs) = none_stays xs

-- ---- parts that lie one behind another

-- what passes p lies before what passes q, and r is either
pub record LieBehind (p q r : List ℕ → Bool) : Type 0 where
  pub before : (k l : List ℕ) → q k ≡ true → p l ≡ true → is_lt (bytes_cmp l k) ≡ true
  pub either : (k : List ℕ) → r k ≡ (p k || q k)

module _ (p q r : List ℕ → Bool) (lie : LieBehind p q r) where
  -- behind one that passes q none passes p
  none_before : (k : List ℕ) → q k ≡ true → (ks : List (List ℕ)) → All (λ l. bytes_cmp k l ≡ Less) ks → filter p ks ≡ []
  none_before k here [] up = refl
  none_before k here (l ∷ ks) up =
      elim (p l) as (λ b. p l ≡ b → cond b (l ∷ filter p ks) (filter p ks) ≡ []) [
        | true ↦ λ e. absurd (let z : true ≡ false = sym (lie.before k l here e) ∙ lt_turned k l (ap is_lt up.0) in cc)
        | false ↦ λ e. none_before k here ks up.1
      ] refl

  pub one_behind : (ks : List (List ℕ)) → IsStrictlySortedBy bytes_cmp ks → filter p ks ++ filter q ks ≡ filter r ks
  unfolding IsStrictlySortedBy
  one_behind [] up = refl
  one_behind (k ∷ ks) up =
      let rest = one_behind ks up.1 in
      elim (p k) as (λ b. p k ≡ b → cond b (k ∷ filter p ks) (filter p ks) ++ cond (q k) (k ∷ filter q ks) (filter q ks) ≡ cond (b || q k) (k ∷ filter r ks) (filter r ks)) [
        | true ↦ λ e.
            elim (q k) as (λ b. q k ≡ b → k ∷ (filter p ks ++ cond b (k ∷ filter q ks) (filter q ks)) ≡ k ∷ filter r ks) [
              | true ↦ λ f. absurd (let z : true ≡ false = sym (lie.before k k f e) ∙ ap is_lt (self_compared k) in cc)
              | false ↦ λ f. ap (λ (ls : List (List ℕ)). k ∷ ls) rest
            ] refl
        | false ↦ λ e.
            elim (q k) as (λ b. q k ≡ b → filter p ks ++ cond b (k ∷ filter q ks) (filter q ks) ≡ cond b (k ∷ filter r ks) (filter r ks)) [
              | true ↦ λ f.
                  let none = none_before k f ks up.0 in
                  ap (λ (ls : List (List ℕ)). ls ++ (k ∷ filter q ks)) none
                  ∙ ap (λ (ls : List (List ℕ)). k ∷ ls) (sym (ap (λ (ls : List (List ℕ)). ls ++ filter q ks) none) ∙ rest)
              | false ↦ λ f. rest
            ] refl
      ] refl
      ∙ ap (λ b. cond b (k ∷ filter r ks) (filter r ks)) (sym (lie.either k))

le_lt : (l a k : List ℕ) → is_le (bytes_cmp l a) ≡ true → is_lt (bytes_cmp a k) ≡ true → is_lt (bytes_cmp l k) ≡ true
le_lt l a k low high =
    elim (bytes_cmp l a) as (λ o. bytes_cmp l a ≡ o → is_le o ≡ true → is_lt (bytes_cmp l k) ≡ true) [
      | Less ↦ λ e f. ap is_lt (bytes_total.trans l a k e (lt_is _ high))
      | Equal ↦ λ e f. subst (λ (x : List ℕ). is_lt (bytes_cmp x k) ≡ true) (sym (bytes_exact l a e)) high
      | Greater ↦ λ e f. absurd cc
    ] refl low

-- ---- what lies above the end of a page

-- a key above the end of a page lies above the key before it
pub further : (after : Option (List ℕ)) (b k : List ℕ) → above after b ≡ true → is_lt (bytes_cmp b k) ≡ true → above after k ≡ true
further None b k over up = refl
further (Some a) b k over up = ap is_lt (bytes_total.trans a b k (lt_is _ over) (lt_is _ up))

-- a key up to which there is one above lies above that
pub reached : (after : Option (List ℕ)) (k b : List ℕ) → above after k ≡ true → is_le (bytes_cmp k b) ≡ true → above after b ≡ true
reached None k b over low = refl
reached (Some a) k b over low = lt_le a k b over low

in_two : (a l : Bool) → (not l ≡ true → a ≡ true) → a ≡ ((a && l) || not l)
in_two true true f = refl
in_two true false f = refl
in_two false true f = refl
in_two false false f = f refl

-- a page, and what is left behind its end
pub page_lies : (after : Option (List ℕ)) (b : List ℕ) → above after b ≡ true → LieBehind (between after (Some b)) (above (Some b)) (above after)
page_lies after b over = record {
  before = λ k l in_rest in_page. le_lt l b k (and_true (above after l) (is_le (bytes_cmp l b)) in_page).1 in_rest;
  either = λ k.
      in_two (above after k) (is_le (bytes_cmp k b)) (λ e. further after b k over (sym (not_le k b) ∙ e))
      ∙ ap (λ x. (above after k && is_le (bytes_cmp k b)) || x) (not_le k b);
}
