-- Lists of the same members, and lists in strict order, by their sets.
use Rattle.std.proofs.Common.{◌≡◌, Bool, true, false, List, refl, sym, ◌∙◌, Ordering}
use Rattle.std.specs.List.{list_any}
use Rattle.std.specs.List.Sorted.{IsStrictlySortedBy}
use Rattle.std.specs.Ordering.{eq_by_cmp}
use Rattle.std.specs.Cmp.{IsTotalOrder}
use Rattle.std.specs.FinMap.{IsAntisymmetric}
use Rattle.sqlite_rules.specs.Lists.{Has}
use Rattle.sqlite_rules.proofs.ListLemmas.{some_has, some_from}
use Rattle.cr_lattice.specs.Sets.{set_of}
use Rattle.cr_lattice.proofs.SortedSets.{same_sorted, list_any-set_of, IsStrictlySortedBy-set_of}

both : (a b : Bool) → (a ≡ true → b ≡ true) → (b ≡ true → a ≡ true) → a ≡ b
both true b p q = sym (p refl)
both false true p q = q refl
both false false p q = refl

module _ {K : Type 0} {R : K → K → Ordering} (o : IsTotalOrder R) (exact : IsAntisymmetric R) where
  any_to : (q : K) (xs ys : List K) → ((s : K) → Has xs s → Has ys s) → list_any (eq_by_cmp R q) xs ≡ true → list_any (eq_by_cmp R q) ys ≡ true
  any_to q xs ys to h = let s = some_has (eq_by_cmp R q) xs h in some_from (eq_by_cmp R q) ys s.0 (to s.0 s.1) s.2

  -- lists of the same members have the same set
  pub same_sets : (xs ys : List K) → ((s : K) → Has xs s → Has ys s) → ((s : K) → Has ys s → Has xs s) → set_of R xs ≡ set_of R ys
  same_sets xs ys to from =
      same_sorted o exact (set_of R xs) (set_of R ys) (IsStrictlySortedBy-set_of o exact xs) (IsStrictlySortedBy-set_of o exact ys) (λ q.
      list_any-set_of o exact (eq_by_cmp R q) xs ∙ both _ _ (any_to q xs ys to) (any_to q ys xs from) ∙ sym (list_any-set_of o exact (eq_by_cmp R q) ys))

  -- a list in strict order is its set
  pub set_of_sorted : (xs : List K) → IsStrictlySortedBy R xs → set_of R xs ≡ xs
  set_of_sorted xs up = same_sorted o exact (set_of R xs) xs (IsStrictlySortedBy-set_of o exact xs) up (λ q. list_any-set_of o exact (eq_by_cmp R q) xs)
