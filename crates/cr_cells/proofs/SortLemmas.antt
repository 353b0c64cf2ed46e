-- The set of a list, by `sort_by` and `dedup_by`.
use Rattle.std.proofs.Common.{◌≡◌, Bool, true, false, cond, ◌||◌, List, [], ◌∷◌, refl, sym, ap, ◌∙◌, Ordering, Less, Equal, Greater}
use Rattle.std.specs.List.{list_any, dedup, dedup_from}
use Rattle.std.specs.List.Sorted.{IsStrictlySortedBy, IsSorted, IsPermutation}
use Rattle.std.specs.Ordering.{eq_by_cmp, is_eq, ordering_then}
use Rattle.std.specs.Cmp.{IsTotalOrder}
use Rattle.std.specs.FinMap.{IsAntisymmetric}
use Rattle.std.proofs.lemmas.List.Kept.{IsStrictlySortedBy-dedup}
use Rattle.std.proofs.lemmas.List.Sorted.{list_any-IsPermutation}
use Rattle.cr_lattice.specs.Sets.{set_of}
use Rattle.cr_lattice.proofs.SortedSets.{same_sorted, list_any-set_of, IsStrictlySortedBy-set_of}

pub then_assoc : (a b c : Ordering) → ordering_then (ordering_then a b) c ≡ ordering_then a (ordering_then b c)
then_assoc Less b c = refl
then_assoc Equal b c = refl
then_assoc Greater b c = refl

pub equal_is : (o : Ordering) → is_eq o ≡ true → o ≡ Equal
equal_is Less h = absurd cc
equal_is Equal h = refl
equal_is Greater h = absurd cc

or_same : (a b : Bool) → (a || b) ≡ (a || (a || b))
or_same true b = refl
or_same false b = refl

module _ {K : Type 0} {R : K → K → Ordering} (o : IsTotalOrder R) (exact : IsAntisymmetric R) where
  any-dedup_from : (p : K → Bool) (k : K) (xs : List K) → list_any p (dedup_from (eq_by_cmp R) k xs) ≡ (p k || list_any p xs)
  any-dedup_from p k [] = refl
  any-dedup_from p k (x ∷ xs) =
      elim (eq_by_cmp R x k) as (λ b. eq_by_cmp R x k ≡ b → list_any p (cond b (dedup_from (eq_by_cmp R) k xs) (k ∷ dedup_from (eq_by_cmp R) x xs)) ≡ (p k || (p x || list_any p xs))) [
        | true ↦ λ e. any-dedup_from p k xs ∙ or_same (p k) (list_any p xs) ∙ ap (λ y. p k || (p y || list_any p xs)) (sym (exact x k (equal_is _ e)))
        | false ↦ λ e. ap (λ b. p k || b) (any-dedup_from p x xs)
      ] refl

  any-dedup : (p : K → Bool) (xs : List K) → list_any p (dedup (eq_by_cmp R) xs) ≡ list_any p xs
  any-dedup p [] = refl
  any-dedup p (x ∷ xs) = any-dedup_from p x xs

  -- a list that is sorted, each once, is its set
  pub sorted_dedup : (ws xs ys : List K) → IsPermutation ws xs → IsSorted R xs → ys ≡ dedup (eq_by_cmp R) xs → ys ≡ set_of R ws
  sorted_dedup ws xs ys moved sorted is =
      let strict : IsStrictlySortedBy R ys = rw is (IsStrictlySortedBy-dedup o (λ _ _. refl) xs sorted) in
      same_sorted o exact ys (set_of R ws) strict (IsStrictlySortedBy-set_of o exact ws) (λ q.
      ap (list_any (eq_by_cmp R q)) is
      ∙ any-dedup (eq_by_cmp R q) xs
      ∙ sym (list_any-IsPermutation (eq_by_cmp R q) ws xs moved)
      ∙ sym (list_any-set_of o exact (eq_by_cmp R q) ws))
