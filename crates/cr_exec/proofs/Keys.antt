-- Keyed combinations, class by class.
use Rattle.std.proofs.Common.{◌≡◌, ◌∙◌, true, false, cond, List, [], ◌∷◌, map, sym, ap, refl, Ordering}
use Rattle.std.specs.Prelude.{filter}
use Rattle.std.specs.List.Sorted.{IsPermutation, IsSortedBy, IsStableBy}
use Rattle.std.specs.Ordering.{is_lt}
use Rattle.std.specs.Cmp.{IsTotalOrder}
use Rattle.std.proofs.lemmas.Cmp.{on_total}
use Rattle.cr_bags.proofs.BagLaws.{bag-sym, bag-map, bag-permutation}
use Rattle.cr_query.specs.Query.{Row}
use Rattle.cr_exec.specs.declared.group.Keyed.{Keyed}
use Rattle.cr_exec.specs.Comparisons.{ValueOrder, by_orders}
use Rattle.cr_exec.specs.Groups.{key_of, pair_of, member_of, members_of, IsByClass}
use Rattle.cr_exec.specs.Shows.{ties_by}
use Rattle.cr_exec.proofs.Runs.{class_moved}

pub members_are : (Rs : List ValueOrder) (keyed : List Keyed) (k : Row) → map member_of (filter (λ x. ties_by Rs k x.key) keyed) ≡ members_of Rs (map pair_of keyed) k
members_are Rs [] k = refl
members_are Rs (x ∷ xs) k =
    elim (ties_by Rs k x.key) as (λ b. map member_of (cond b (x ∷ filter (λ x. ties_by Rs k x.key) xs) (filter (λ x. ties_by Rs k x.key) xs)) ≡ map (λ p. p.1) (cond b (pair_of x ∷ filter (λ p. ties_by Rs k p.0) (map pair_of xs)) (filter (λ p. ties_by Rs k p.0) (map pair_of xs)))) [
      | true ↦ ap (λ (l : List Row). x.combination.now ∷ l) (members_are Rs xs k)
      | false ↦ members_are Rs xs k
    ]

-- a key that stands nowhere
abbrev pub with_key : Row → Keyed
with_key k = record { key = k; combination = record { ref_ptr = (0, 0); now = [] } }

module _ (Rs : List ValueOrder) (o : IsTotalOrder (by_orders Rs)) where
  abbrev by_key : Keyed → Keyed → Ordering
  by_key a b = by_orders Rs a.key b.key

  pub is_by_class : (keyed grouped : List Keyed) → IsPermutation keyed grouped → IsSortedBy (λ a b. is_lt (by_key a b)) grouped → IsStableBy (λ a b. is_lt (by_key a b)) keyed grouped → IsByClass Rs keyed grouped
  is_by_class keyed grouped moved sorted stable = record {
    in_order = sorted;
    keys = bag-map key_of (bag-sym (bag-permutation keyed grouped moved));
    members = λ k. sym (members_are Rs grouped k) ∙ ap (map member_of) (class_moved by_key (on_total key_of o) keyed grouped stable (with_key k)) ∙ members_are Rs keyed k;
  }
