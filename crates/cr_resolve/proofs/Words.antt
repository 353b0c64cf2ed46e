-- Words with a space between each two.
use Rattle.std.proofs.Common.{◌≡◌, ℕ, List, [], ◌∷◌, ◌++◌, refl, ap, sym}
use Rattle.std.specs.List.{join_with_byte}
use Rattle.std.proofs.lemmas.List.{append-nil}
use Rattle.cr_resolve.specs.Expressions.{spaced}

pub spaced_is : (ws : List (List ℕ)) → join_with_byte 32 ws ≡ spaced ws
spaced_is [] = refl
spaced_is (w ∷ []) = sym (append-nil w)
spaced_is (w ∷ v ∷ ws) = ap (λ z. w ++ 32 ∷ z) (spaced_is (v ∷ ws))
