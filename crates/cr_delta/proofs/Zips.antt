-- A loop over a `zip` of two slices, by what is left of it.
use Rattle.std.proofs.Common.{◌≡◌, inl, inr, List, [], ◌∷◌, Option, Some, None, Bor, Iter, refl}
use Rattle.std.specs.List.{zip}
use Rattle.std.specs.Slice.Iter.{iter_rest}
use Rattle.std.specs.declared.iter.Zip.{Zip}
use Rattle.std.specs.Iterator.Adapters.{zip_first, zip_second}
use Rattle.std.proofs.iter.Yields.{fronts}
use Rattle.std.proofs.lemmas.Iterator.{zips}
use Rattle.std.proofs.lemmas.Slice.Zip.{Zip-more, either_empty_from_Zip}

-- the pairs that are left
abbrev pub left_of : {A B : Type 0} → Zip (Iter A) (Iter B) → List (A × B)
left_of s = zip (iter_rest (zip_first s)) (iter_rest (zip_second s))

zip-nil : {A B : Type 0} (xs : List A) → zip {K = A} {X = B} xs [] ≡ []
zip-nil [] = refl
zip-nil (x ∷ xs) = refl

pub left_step : {A B : Type 0} (s t : Zip (Iter A) (Iter B)) (r : Option (Bor A × Bor B)) (p : Bor A × Bor B) → r ≡ Some p → zips fronts fronts s r t → left_of s ≡ (p.0.now, p.1.now) ∷ left_of t
left_step s t r p e z = let m = Zip-more s t r p e z in rw (m.0, m.1) refl

pub left_over : {A B : Type 0} (s t : Zip (Iter A) (Iter B)) (r : Option (Bor A × Bor B)) → r ≡ None → zips fronts fronts s r t → left_of s ≡ []
left_over s t r e z =
    elim (either_empty_from_Zip s t r e z) [
      | inl first ↦ rw first refl
      | inr second ↦ rw second (zip-nil (iter_rest (zip_first s)))
    ]
