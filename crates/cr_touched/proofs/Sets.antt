-- Sets of rows by their keys.
use Rattle.std.proofs.Common.{◌≡◌, ◌||◌, Bool, true, false, cond, List, [], ◌∷◌, refl, sym, ap, ◌∙◌, Ordering, Less, Equal, Greater}
use Rattle.std.specs.Prelude.{filter}
use Rattle.std.specs.List.{list_any, AllByRecursion}
use Rattle.std.specs.List.Sorted.{IsStrictlySortedBy}
use Rattle.std.specs.BTreeSet.{insert_key}
use Rattle.std.specs.Ordering.{ordering_reverse, match_ordering}
use Rattle.std.specs.Cmp.{IsTotalOrder}
use Rattle.cr_lattice.specs.Sets.{set_of}

pub all_by : {A : Type 0} (P Q : A → Type 0) (xs : List A) → ((x : A) → P x → Q x) → AllByRecursion P xs → AllByRecursion Q xs
all_by P Q [] f all = tt
all_by P Q (x ∷ xs) f all = (f x all.0, all_by P Q xs f all.1)

module _ {K : Type 0} (R : K → K → Ordering) (P : K → Type 0) where
  all_insert : (xs : List K) (k : K) → P k → AllByRecursion P xs → AllByRecursion P (insert_key R xs k)
  all_insert [] k h all = (h, tt)
  all_insert (x ∷ xs) k h all =
      elim (R k x) as (λ o. AllByRecursion P (match_ordering o (k ∷ x ∷ xs) (x ∷ xs) (x ∷ insert_key R xs k))) [
        | Less ↦ (h, all)
        | Equal ↦ all
        | Greater ↦ (all.0, all_insert xs k h all.1)
      ]

  -- what holds of each holds of each in their set
  pub all_set : (xs : List K) → AllByRecursion P xs → AllByRecursion P (set_of R xs)
  all_set [] all = tt
  all_set (x ∷ xs) all = all_insert (set_of R xs) x all.0 (all_set xs all.1)

-- a test that ties pass alike
module _ {K : Type 0} {R : K → K → Ordering} (o : IsTotalOrder R) (p : K → Bool) (alike : (x y : K) → R x y ≡ Equal → p x ≡ p y) where
  or_swap : (a b c : Bool) → (a || (b || c)) ≡ (b || (a || c))
  or_swap true true c = refl
  or_swap true false c = refl
  or_swap false b c = refl

  or_same : (a b : Bool) → (a || b) ≡ (a || (a || b))
  or_same true b = refl
  or_same false b = refl

  any_insert : (ks : List K) (k : K) → list_any p (insert_key R ks k) ≡ (p k || list_any p ks)
  any_insert [] k = refl
  any_insert (x ∷ xs) k =
      elim (R k x) as (λ r. R k x ≡ r → list_any p (match_ordering r (k ∷ x ∷ xs) (x ∷ xs) (x ∷ insert_key R xs k)) ≡ (p k || (p x || list_any p xs))) [
        | Less ↦ λ e. refl
        | Equal ↦ λ e. or_same (p x) (list_any p xs) ∙ ap (λ b. b || (p x || list_any p xs)) (sym (alike k x e))
        | Greater ↦ λ e. ap (λ b. p x || b) (any_insert xs k) ∙ or_swap (p x) (p k) (list_any p xs)
      ] refl

  pub any_set : (ks : List K) → list_any p (set_of R ks) ≡ list_any p ks
  any_set [] = refl
  any_set (k ∷ ks) = any_insert (set_of R ks) k ∙ ap (λ b. p k || b) (any_set ks)

  -- ---- the set of those that pass

  abbrev Below : K → List K → Type 0
  Below x ks = AllByRecursion (λ y. R x y ≡ Less) ks

  below_insert : (x k : K) (ks : List K) → R x k ≡ Less → Below x ks → Below x (insert_key R ks k)
  below_insert x k ks h b = all_insert R (λ y. R x y ≡ Less) ks k h b

  below_less : (x y : K) (ks : List K) → R x y ≡ Less → Below y ks → Below x ks
  below_less x y ks h b = all_by (λ z. R y z ≡ Less) (λ z. R x z ≡ Less) ks (λ z l. o.trans x y z h l) b

  sorted_insert : (ks : List K) (k : K) → IsStrictlySortedBy R ks → IsStrictlySortedBy R (insert_key R ks k)
  unfolding IsStrictlySortedBy
  sorted_insert [] k s = (tt, tt)
  sorted_insert (x ∷ xs) k s =
      elim (R k x) as (λ r. R k x ≡ r → IsStrictlySortedBy R (match_ordering r (k ∷ x ∷ xs) (x ∷ xs) (x ∷ insert_key R xs k))) [
        | Less ↦ λ e. ((e, below_less k x xs e s.0), s)
        | Equal ↦ λ e. s
        | Greater ↦ λ e. (below_insert x k xs (o.antisymm x k ∙ ap ordering_reverse e) s.0, sorted_insert xs k s.1)
      ] refl

  sorted_set : (ks : List K) → IsStrictlySortedBy R (set_of R ks)
  unfolding IsStrictlySortedBy
  sorted_set [] = tt
  sorted_set (k ∷ ks) = sorted_insert (set_of R ks) k (sorted_set ks)

  below_filter : (x : K) (ks : List K) → Below x ks → Below x (filter p ks)
  below_filter x [] b = tt
  below_filter x (y ∷ ys) b =
      elim (p y) as (λ t. Below x (cond t (y ∷ filter p ys) (filter p ys))) [
        | true ↦ (b.0, below_filter x ys b.1)
        | false ↦ below_filter x ys b.1
      ]

  first_insert : (ks : List K) (k : K) → Below k ks → insert_key R ks k ≡ k ∷ ks
  first_insert [] k b = refl
  first_insert (x ∷ xs) k b = rw b.0 refl

  -- one that ties with the first
  tied : (k x : K) (ks : List K) → R k x ≡ Equal → (b : Bool) → p x ≡ b → cond b (x ∷ ks) ks ≡ cond (p k) (insert_key R (cond b (x ∷ ks) ks) k) (cond b (x ∷ ks) ks)
  tied k x ks e true h = let same : p k ≡ true = alike k x e ∙ h in rw (same, e) refl
  tied k x ks e false h = let same : p k ≡ false = alike k x e ∙ h in rw same refl

  -- one that is past the first
  past : (k x : K) (ks : List K) → R k x ≡ Greater → (t : Bool) → x ∷ cond t (insert_key R ks k) ks ≡ cond t (insert_key R (x ∷ ks) k) (x ∷ ks)
  past k x ks e true = rw e refl
  past k x ks e false = refl

  later : (k x : K) (ks ls : List K) → R k x ≡ Greater → ls ≡ cond (p k) (insert_key R ks k) ks → (b : Bool) → cond b (x ∷ ls) ls ≡ cond (p k) (insert_key R (cond b (x ∷ ks) ks) k) (cond b (x ∷ ks) ks)
  later k x ks ls e rest true = ap (λ l. x ∷ l) rest ∙ past k x ks e (p k)
  later k x ks ls e rest false = rest

  filter_insert : (ks : List K) (k : K) → IsStrictlySortedBy R ks → filter p (insert_key R ks k) ≡ cond (p k) (insert_key R (filter p ks) k) (filter p ks)
  unfolding IsStrictlySortedBy
  filter_insert [] k s = refl
  filter_insert (x ∷ xs) k s =
      elim (R k x) as (λ r. R k x ≡ r → filter p (match_ordering r (k ∷ x ∷ xs) (x ∷ xs) (x ∷ insert_key R xs k)) ≡ cond (p k) (insert_key R (filter p (x ∷ xs)) k) (filter p (x ∷ xs))) [
        | Less ↦ λ e. (
            let below = below_filter k (x ∷ xs) (e, below_less k x xs e s.0) in
            ap (λ l. cond (p k) l (filter p (x ∷ xs))) (sym (first_insert (filter p (x ∷ xs)) k below)))
        | Equal ↦ λ e. tied k x (filter p xs) e (p x) refl
        | Greater ↦ λ e. later k x (filter p xs) (filter p (insert_key R xs k)) e (filter_insert xs k s.1) (p x)
      ] refl

  pub filter_set : (ks : List K) → filter p (set_of R ks) ≡ set_of R (filter p ks)
  filter_set [] = refl
  filter_set (k ∷ ks) =
      filter_insert (set_of R ks) k (sorted_set ks)
      ∙ elim (p k) as (λ b. cond b (insert_key R (filter p (set_of R ks)) k) (filter p (set_of R ks)) ≡ set_of R (cond b (k ∷ filter p ks) (filter p ks))) [
        | true ↦ ap (λ l. insert_key R l k) (filter_set ks)
        | false ↦ filter_set ks
      ]
