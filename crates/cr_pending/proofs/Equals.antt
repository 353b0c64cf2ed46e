-- Lists that are the same, element by element.
use Rattle.std.proofs.Common.{◌≡◌, ◌↔◌, IsTrue, refl, sym, ap, subst, Ordering, Less, Equal, Greater}
use Rattle.std.specs.Ordering.{is_eq}
use Rattle.std.specs.Cmp.{IsTotalOrder}
use Rattle.std.specs.FinSet.{IsAntisymmetric}
use Rattle.std.proofs.lemmas.Cmp.{tied_itself}

module _ {K : Type 0} {R : K → K → Ordering} (o : IsTotalOrder R) (exact : IsAntisymmetric R) where
  tied_by : (x y : K) (t : Ordering) → R x y ≡ t → IsTrue (is_eq t) → x ≡ y
  tied_by x y Less e p = absurd (let z : ⊥ = cc in z)
  tied_by x y Equal e p = exact x y e
  tied_by x y Greater e p = absurd (let z : ⊥ = cc in z)

  -- what ties is equal
  pub tied : (x y : K) → IsTrue (is_eq (R x y)) ↔ (x ≡ y)
  tied x y = (tied_by x y (R x y) refl, λ e. subst (λ (k : K). IsTrue (is_eq (R k y))) (sym e) (ap is_eq (tied_itself o y)))
