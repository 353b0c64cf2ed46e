-- The order of keys, and lists that have one set.
use Rattle.std.proofs.Common.{◌≡◌, List, refl, Ordering, Less, Equal, Greater}
use Rattle.std.specs.Ordering.{ordering_then}
use Rattle.std.specs.Cmp.{IsTotalOrder}
use Rattle.std.specs.FinMap.{IsAntisymmetric}
use Rattle.std.proofs.lemmas.Cmp.{on_total, then_total}
use Rattle.cr_value.specs.OrderLaws.{bytes_total, bytes_exact}
use Rattle.cr_lattice.specs.Sets.{set_of}
use Rattle.cr_lattice.proofs.SortedSets.{IsStrictlySortedBy-set_of}
use Rattle.cr_cells.proofs.MemberLemmas.{Among, set_is, Among-set_of, set_of-Among}
use Rattle.cr_recent.specs.Notes.{key_cmp}

-- ---- keys

pub key_total : IsTotalOrder key_cmp
key_total = then_total (on_total (λ k. k.table) bytes_total) (on_total (λ k. k.pk) bytes_total)

tie_parts : (o p : Ordering) → ordering_then o p ≡ Equal → (o ≡ Equal) × (p ≡ Equal)
tie_parts Less p e = absurd cc
tie_parts Equal p e = (refl, e)
tie_parts Greater p e = absurd cc

pub key_exact : IsAntisymmetric key_cmp
key_exact k l e =
    let p = tie_parts _ _ e in
    let table = bytes_exact k.table l.table p.0 in
    let pk = bytes_exact k.pk l.pk p.1 in
    λ i. record { table = table i; pk = pk i }

-- ---- sets

module _ {K : Type 0} {R : K → K → Ordering} (o : IsTotalOrder R) (exact : IsAntisymmetric R) where
  -- lists of the same members have one set
  pub same_sets : (xs ys : List K) → ((x : K) → Among xs x → Among ys x) → ((x : K) → Among ys x → Among xs x) → set_of R xs ≡ set_of R ys
  same_sets xs ys to from =
      set_is o exact (set_of R xs) ys (IsStrictlySortedBy-set_of o exact xs)
      (λ x a. to x (Among-set_of o exact xs x a))
      (λ x a. set_of-Among o exact xs x (from x a))
