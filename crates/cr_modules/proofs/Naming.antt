-- Names of modules, each another.
use Rattle.std.proofs.Common.{◌≡◌, ℕ, Bool, true, false, not, ◌&&◌, List, [], ◌∷◌, ◌++◌, map, refl, sym, ap, subst, ◌∙◌}
use Rattle.std.specs.Prelude.{if◌then◌else◌}
use Rattle.std.specs.Cmp.{eq_by_cmp_equiv}
use Rattle.std.specs.List.{list_all}
use Rattle.cr_value.specs.OrderLaws.{bytes_total}
use Rattle.cr_lattice.specs.Check.{same_bytes}
use Rattle.cr_lattice.proofs.Tested.{and_true, not_true}
use Rattle.cr_modules.specs.States.{HasNone, are_distinct}

both : (a b : Bool) → a ≡ true → b ≡ true → (a && b) ≡ true
both a b e f = λ i. e i && f i

-- a name that none has
pub has_none : {X : Type 0} (name_of : X → List ℕ) (n : List ℕ) (xs : List X) → list_all (λ o. not (same_bytes o n)) (map name_of xs) ≡ true → HasNone (λ x. same_bytes (name_of x) n) xs
has_none name_of n [] e = tt
has_none name_of n (x ∷ xs) e =
    let parts = and_true (not (same_bytes (name_of x) n)) (list_all (λ o. not (same_bytes o n)) (map name_of xs)) e in
    (not_true (same_bytes (name_of x) n) parts.0, has_none name_of n xs parts.1)

module _ {X : Type 0} (name_of : X → List ℕ) where
  all_more : (q : List ℕ → Bool) (xs : List X) (x : X) → list_all q (map name_of xs) ≡ true → q (name_of x) ≡ true → list_all q (map name_of (xs ++ x ∷ [])) ≡ true
  all_more q [] x all e = both (q (name_of x)) true e refl
  all_more q (y ∷ xs) x all e =
      let parts = and_true (q (name_of y)) (list_all q (map name_of xs)) all in
      both (q (name_of y)) (list_all q (map name_of (xs ++ x ∷ []))) parts.0 (all_more q xs x parts.1 e)

  -- what has a name that none has may stand behind the others
  one_more : (xs : List X) (x : X) → are_distinct (map name_of xs) ≡ true → HasNone (λ z. same_bytes (name_of z) (name_of x)) xs → are_distinct (map name_of (xs ++ x ∷ [])) ≡ true
  one_more [] x distinct none = refl
  one_more (y ∷ xs) x distinct none =
      let parts = and_true (list_all (λ o. not (same_bytes o (name_of y))) (map name_of xs)) (are_distinct (map name_of xs)) distinct in
      both (list_all (λ o. not (same_bytes o (name_of y))) (map name_of (xs ++ x ∷ []))) (are_distinct (map name_of (xs ++ x ∷ [])))
      (all_more (λ o. not (same_bytes o (name_of y))) xs x parts.0 (ap not ((eq_by_cmp_equiv bytes_total).symm (name_of x) (name_of y) ∙ none.0)))
      (one_more xs x parts.1 none.1)

  pushed_if : (b : Bool) (xs news : List X) (x : X) → news ≡ (if b then xs ++ x ∷ [] else xs) → are_distinct (map name_of xs) ≡ true → HasNone (λ z. same_bytes (name_of z) (name_of x)) xs → are_distinct (map name_of news) ≡ true
  pushed_if true xs news x e distinct none = ap (λ (zs : List X). are_distinct (map name_of zs)) e ∙ one_more xs x distinct none
  pushed_if false xs news x e distinct none = ap (λ (zs : List X). are_distinct (map name_of zs)) e ∙ distinct

  -- it stands behind the others, or memory ran out
  pub pushed : (b : Bool) (xs news : List X) (x : X) (n : List ℕ) → news ≡ (if b then xs ++ x ∷ [] else xs) → name_of x ≡ n → are_distinct (map name_of xs) ≡ true → HasNone (λ z. same_bytes (name_of z) n) xs
      → are_distinct (map name_of news) ≡ true
  pushed b xs news x n e is distinct none = pushed_if b xs news x e distinct (subst (λ (m : List ℕ). HasNone (λ z. same_bytes (name_of z) m) xs) (sym is) none)
