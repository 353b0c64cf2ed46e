-- Reading the rows of a table one by one, and rowids that are distinct.
use Rattle.std.proofs.Common.{◌≡◌, ◌≢◌, ◌+◌, ℤ, Bool, true, false, List, [], ◌∷◌, ◌++◌, map, get_or, Ordering, Less, Equal, Greater, refl, sym, ap, subst, ◌∙◌, arith, int_cmp, is_eq, true≢false}
use Rattle.std.specs.Prelude.{Decides}
use Rattle.std.specs.List.{AllByRecursion, IsDistinct, IsAllAdjacentAnswer}
use Rattle.std.specs.List.Sorted.{IsSorted, IsPermutation}
use Rattle.std.specs.Ordering.{is_lt, int_eq, ordering_reverse}
use Rattle.std.proofs.lemmas.Cmp.{int_cmp_total, tied_itself}
use Rattle.std.specs.FinSet.{int_cmp-IsAntisymmetric}
use Rattle.std.proofs.lemmas.List.Sorted.{IsPermutation-sym}
use Rattle.std.proofs.lemmas.Map.Keys.{IsDistinct-IsPermutation, IsDistinct-from_sorted, apart_from_distinct}
use Rattle.sqlite.specs.declared.types.Value.TheVariants.{Int}
use Rattle.sqlite.specs.Order.{Row}
use Rattle.sqlite_rules.specs.Edit.{id_in}
use Rattle.sqlite_trees.specs.Tree.{rowid}
use Rattle.cr_rows.specs.Rows.{AreApart}
use Rattle.cr_store.specs.Stored.{IsInteger}
use Rattle.cr_cells.proofs.SortLemmas.{equal_is}
use Rattle.cr_sound.proofs.Deciding.{order_decided}

-- ---- one more row

pub all_one_more : {X : Type 0} (P : X → Type 0) (xs : List X) (y : X) → AllByRecursion P xs → P y → AllByRecursion P (xs ++ y ∷ [])
all_one_more P [] y all here = (here, tt)
all_one_more P (x ∷ xs) y all here = (all.0, all_one_more P xs y all.1 here)

-- ---- distinct numbers

eq_flips : (o : Ordering) → is_eq (ordering_reverse o) ≡ is_eq o
eq_flips Less = refl
eq_flips Equal = refl
eq_flips Greater = refl

pub flips : (a b : ℤ) → int_eq a b ≡ int_eq b a
flips a b = ap is_eq (int_cmp_total.antisymm a b) ∙ eq_flips (int_cmp b a)

below : (o : Ordering) → is_eq o ≡ false → is_lt (ordering_reverse o) ≡ false → is_lt o ≡ true
below Less e h = refl
below Equal e h = absurd cc
below Greater e h = absurd cc

-- what `is_sorted_by` answers of numbers that are sorted
pub distinct_decided : (ws xs : List ℤ) (r : Bool) → IsPermutation ws xs → IsSorted int_cmp xs → IsAllAdjacentAnswer (λ a b t. t ≡ is_lt (int_cmp a b)) xs r → Decides r (IsDistinct int_eq ws)
distinct_decided ws xs true moved sorted h =
    let strict = (order_decided int_cmp_total xs true h).0 refl in
    ((λ e. IsDistinct-IsPermutation int_eq flips xs ws (IsPermutation-sym ws xs moved) (IsDistinct-from_sorted int_cmp xs strict)), λ d. refl)
distinct_decided ws [] false moved sorted h = let l = h.1 in let no : ⊥ = omega arith in absurd no
distinct_decided ws (x ∷ xs) false moved sorted h = (
  (λ e. absurd cc),
  λ d. (
      let l = h.1 in
      let a = get_or (x ∷ xs) h.0 x in let b = get_or (x ∷ xs) (h.0 + 1) x in
      let d' : IsDistinct int_eq (x ∷ xs) = IsDistinct-IsPermutation int_eq flips ws (x ∷ xs) moved d in
      let apart : int_eq a b ≡ false = apart_from_distinct int_eq (x ∷ xs) h.0 (h.0 + 1) x d' (omega arith) l in
      let up : is_lt (int_cmp b a) ≡ false = sorted h.0 x (omega arith) l in
      let up' : is_lt (ordering_reverse (int_cmp a b)) ≡ false = ap is_lt (sym (int_cmp_total.antisymm b a)) ∙ up in
      h.2 x ∙ below (int_cmp a b) apart up'),
)

-- ---- rowids

abbrev id : Row → ℤ
id r = id_in (rowid r)

tied : (n : ℤ) → int_eq n n ≡ true
tied n = ap is_eq (tied_itself int_cmp_total n)

untied_rows : (r : Row) (rows : List Row) → AllByRecursion (λ n. int_eq (id r) n ≡ false) (map id rows) → AllByRecursion (λ s. rowid r ≢ rowid s) rows
untied_rows r [] all = tt
untied_rows r (s ∷ rows) all =
    ((λ same. absurd (true≢false (sym (tied (id r)) ∙ ap (λ v. int_eq (id r) (id_in v)) same ∙ all.0))), untied_rows r rows all.1)

apart_rows : (rows : List Row) → IsDistinct int_eq (map id rows) → AreApart rows
unfolding IsDistinct
apart_rows [] d = tt
apart_rows (r ∷ rows) d = (untied_rows r rows d.0, apart_rows rows d.1)

untied : (r s : Row) → IsInteger (rowid r) → IsInteger (rowid s) → rowid r ≢ rowid s → int_eq (id r) (id s) ≡ false
untied r s m n other = elim (int_eq (id r) (id s)) as (λ b. int_eq (id r) (id s) ≡ b → b ≡ false) [
  | true ↦ λ e. absurd (other (m ∙ ap Int (int_cmp-IsAntisymmetric (id r) (id s) (equal_is _ e)) ∙ sym n))
  | false ↦ λ e. refl
] refl

untied_ids : (r : Row) (rows : List Row) → IsInteger (rowid r) → AllByRecursion (λ s. IsInteger (rowid s)) rows → AllByRecursion (λ s. rowid r ≢ rowid s) rows → AllByRecursion (λ n. int_eq (id r) n ≡ false) (map id rows)
untied_ids r [] m all other = tt
untied_ids r (s ∷ rows) m all other = (untied r s m all.0 other.0, untied_ids r rows m all.1 other.1)

distinct_rows : (rows : List Row) → AllByRecursion (λ r. IsInteger (rowid r)) rows → AreApart rows → IsDistinct int_eq (map id rows)
unfolding IsDistinct
distinct_rows [] all a = tt
distinct_rows (r ∷ rows) all a = (untied_ids r rows all.0 all.1 a.0, distinct_rows rows all.1 a.1)

-- the rowids as they are read
module _ (rows : List Row) (ids : List ℤ) (is : ids ≡ map (λ r. id_in (rowid r)) rows) where
  pub apart_from_ids : IsDistinct int_eq ids → AreApart rows
  apart_from_ids d = apart_rows rows (subst (IsDistinct int_eq) is d)

  pub ids_from_apart : AllByRecursion (λ r. IsInteger (rowid r)) rows → AreApart rows → IsDistinct int_eq ids
  ids_from_apart all a = subst (IsDistinct int_eq) (sym is) (distinct_rows rows all a)
