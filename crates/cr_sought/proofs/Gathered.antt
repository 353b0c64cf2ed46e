-- What holds of all members of lists that are put together.
use Rattle.std.proofs.Common.{◌≡◌, List, [], ◌∷◌, ◌++◌, Option, Some, None, refl, subst}
use Rattle.std.specs.List.{AllByRecursion}
use Rattle.cr_value.proofs.Fields.{some_is}
use Rattle.cr_bags.specs.Bags.{joins, gather}

pub all_append : {A : Type 0} (P : A → Type 0) (xs ys : List A) → AllByRecursion P xs → AllByRecursion P ys → AllByRecursion P (xs ++ ys)
all_append P [] ys a b = b
all_append P (x ∷ xs) ys a b = (a.0, all_append P xs ys a.1 b)

-- what holds of all that f gives of each holds of what is gathered
pub gathered : {A B : Type 0} (Q : A → Type 0) (P : B → Type 0) (f : A → Option (List B))
    → ((x : A) (us : List B) → Q x → f x ≡ Some us → AllByRecursion P us) → (xs : List A) (us : List B) → AllByRecursion Q xs
    → gather f xs ≡ Some us → AllByRecursion P us
gathered Q P f h [] us all e = let is : [] ≡ us = cc in subst (AllByRecursion P) is tt
gathered Q P f h (x ∷ xs) us all e =
    elim (f x) as (λ o. f x ≡ o → joins o (gather f xs) ≡ Some us → AllByRecursion P us) [
      | None ↦ λ a k. absurd cc
      | Some vs ↦ λ a.
          elim (gather f xs) as (λ p. gather f xs ≡ p → joins (Some vs) p ≡ Some us → AllByRecursion P us) [
            | None ↦ λ b k. absurd cc
            | Some ws ↦ λ b k. (
                let is : vs ++ ws ≡ us = cc in
                subst (AllByRecursion P) is (all_append P vs ws (h x vs all.0 a) (gathered Q P f h xs ws all.1 b)))
          ] refl
    ] refl e

-- what is put together of both
pub parted : {X : Type 0} (o p : Option (List X)) (xs : List X) → joins o p ≡ Some xs
    → (us : List X) × (ws : List X) × (o ≡ Some us) × (p ≡ Some ws) × (us ++ ws ≡ xs)
parted None p xs e = absurd cc
parted (Some us) None xs e = absurd cc
parted (Some us) (Some ws) xs e = (us, ws, refl, refl, some_is (us ++ ws) xs e)
