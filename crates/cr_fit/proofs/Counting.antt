-- How many of a list pass, and where the first stands, by recursion over the list.
use Rattle.std.proofs.Common.{◌≡◌, refl, sym, ap, ◌∙◌, ℕ, zero, suc, ◌+◌, Bool, true, false, not, ◌||◌, nat_lt, List, [], ◌∷◌, length, map, Option, Some, None, if◌then◌else◌, arith}
use Rattle.std.specs.Prelude.{cond, count_by, sum_by, position}
use Rattle.std.specs.Option.{option_map}
use Rattle.std.specs.List.{list_any, position_or_len}
use Rattle.std.proofs.lemmas.Bool.Decides.{nat_tests}
use Rattle.std.proofs.lemmas.List.Recursion.{is_count_by}
use Rattle.std.proofs.lemmas.List.Sums.{sum_by-cons}

one_more : (n : ℕ) → suc n ≡ 1 + n
one_more n = omega arith

abbrev pub count : {X : Type 0} → (X → Bool) → List X → ℕ
count p [] = 0
count p (x ∷ xs) = cond (p x) (suc (count p xs)) (count p xs)

pub counts : {X : Type 0} (p : X → Bool) (xs : List X) → count_by p xs ≡ count p xs
counts p xs = sym (is_count_by (count p) p refl (λ x xs. ap (λ n. cond (p x) n (count p xs)) (one_more (count p xs))) xs)

pub count_map : {X Y : Type 0} (f : X → Y) (p : Y → Bool) (xs : List X) → count p (map f xs) ≡ count (λ x. p (f x)) xs
count_map f p [] = refl
count_map f p (x ∷ xs) = ap (λ n. cond (p (f x)) (suc n) n) (count_map f p xs)

pub count_same : {X : Type 0} (p q : X → Bool) → ((x : X) → p x ≡ q x) → (xs : List X) → count p xs ≡ count q xs
count_same p q e [] = refl
count_same p q e (x ∷ xs) = ap (λ b. cond b (suc (count p xs)) (count p xs)) (e x) ∙ ap (λ n. cond (q x) (suc n) n) (count_same p q e xs)

pub count_none : {X : Type 0} (p : X → Bool) → ((x : X) → p x ≡ false) → (xs : List X) → count p xs ≡ 0
count_none p e [] = refl
count_none p e (x ∷ xs) = ap (λ b. cond b (suc (count p xs)) (count p xs)) (e x) ∙ count_none p e xs

-- either of two that no item passes both
pub count_either : {X : Type 0} (p q : X → Bool) → ((x : X) → p x ≡ true → q x ≡ false) → (xs : List X) → count (λ x. p x || q x) xs ≡ count p xs + count q xs
count_either p q e [] = refl
count_either p q e (x ∷ xs) = by (p x) (q x) (e x) (count_either p q e xs)
  where
    by : (b c : Bool) → (b ≡ true → c ≡ false) → count (λ x. p x || q x) xs ≡ count p xs + count q xs
        → cond (b || c) (suc (count (λ x. p x || q x) xs)) (count (λ x. p x || q x) xs) ≡ cond b (suc (count p xs)) (count p xs) + cond c (suc (count q xs)) (count q xs)
    by true true f h = absurd (let z : true ≡ false = f refl in let y : ⊥ = cc in y)
    by true false f h = let k : suc (count (λ x. p x || q x) xs) ≡ suc (count p xs) + count q xs = omega (arith, h) in k
    by false true f h = let k : suc (count (λ x. p x || q x) xs) ≡ count p xs + suc (count q xs) = omega (arith, h) in k
    by false false f h = h

none_by : {X : Type 0} (p : X → Bool) (b : Bool) (n : ℕ) (xs : List X) → (list_any p xs ≡ false → n ≡ 0) → (b || list_any p xs) ≡ false → cond b (suc n) n ≡ 0
none_by p true n xs h e = absurd (let z : ⊥ = cc in z)
none_by p false n xs h e = h e

pub none_counted : {X : Type 0} (p : X → Bool) (xs : List X) → list_any p xs ≡ false → count p xs ≡ 0
none_counted p [] h = refl
none_counted p (x ∷ xs) h = none_by p (p x) (count p xs) xs (none_counted p xs) h

less_suc : (a n : ℕ) → nat_lt (suc a) (suc n) ≡ nat_lt a n
less_suc a n = grind (arith, nat_tests)

next_place : (a n : ℕ) → cond (nat_lt (1 + a) (suc n)) (Some (1 + a)) None ≡ option_map suc (cond (nat_lt a n) (Some a) None)
next_place a n = ap (λ k. cond (nat_lt k (suc n)) (Some k) None) (sym (one_more a)) ∙ ap (λ b. cond b (Some (suc a)) None) (less_suc a n) ∙ by (nat_lt a n)
  where
    by : (b : Bool) → cond b (Some (suc a)) None ≡ option_map suc (cond b (Some a) None)
    by true = refl
    by false = refl

first_place : (n : ℕ) → cond {A = Option ℕ} (nat_lt 0 (suc n)) (Some 0) None ≡ Some 0
first_place n = let z : nat_lt 0 (suc n) ≡ true = grind (arith, nat_tests) in ap (λ b. cond {A = Option ℕ} b (Some 0) None) z

place_by : (b : Bool) (a n : ℕ) → cond {A = Option ℕ} (nat_lt (cond (not b) (1 + a) 0) (suc n)) (Some (cond (not b) (1 + a) 0)) None ≡ (if b then Some 0 else option_map suc (cond {A = Option ℕ} (nat_lt a n) (Some a) None))
place_by true a n = first_place n
place_by false a n = next_place a n

pub place_cons : {X : Type 0} (p : X → Bool) (x : X) (xs : List X) → position p (x ∷ xs) ≡ (if p x then Some 0 else option_map suc (position p xs))
place_cons p x xs = place_by (p x) (position_or_len p xs) (length xs)

-- ---- sums

none_of : (b c : Bool) (n : ℕ) → (n ≡ 0 → c ≡ false) → cond b (suc n) n ≡ 0 → (b || c) ≡ false
none_of true c n h e = let z : suc n ≡ 0 = e in absurd (omega (arith, z))
none_of false c n h e = h e

none_any : {X : Type 0} (p : X → Bool) (xs : List X) → count p xs ≡ 0 → list_any p xs ≡ false
none_any p [] e = refl
none_any p (x ∷ xs) e = none_of (p x) (list_any p xs) (count p xs) (none_any p xs) e

pub no_sum : {X : Type 0} (p : X → Bool) (xs : List X) → count_by p xs ≡ 0 → list_any p xs ≡ false
no_sum p xs e = none_any p xs (sym (counts p xs) ∙ e)

some_of : (b c : Bool) (n k : ℕ) → (n ≡ suc k → c ≡ true) → cond b (suc n) n ≡ suc k → (b || c) ≡ true
some_of true c n k h e = refl
some_of false c n k h e = h e

some_any : {X : Type 0} (p : X → Bool) (k : ℕ) (xs : List X) → count p xs ≡ suc k → list_any p xs ≡ true
some_any p k [] e = absurd (let z : ⊥ = cc in z)
some_any p k (x ∷ xs) e = some_of (p x) (list_any p xs) (count p xs) k (some_any p k xs) e

pub some_sum : {X : Type 0} (p : X → Bool) (n : ℕ) (xs : List X) → count_by p xs ≡ suc n → list_any p xs ≡ true
some_sum p n xs e = some_any p n xs (sym (counts p xs) ∙ e)

-- of lists inside a list: nothing passes in any
pub no_sums : {X Y : Type 0} (f : X → List Y) (p : Y → Bool) (xs : List X) → sum_by (λ x. count_by p (f x)) xs ≡ 0 → count (λ x. list_any p (f x)) xs ≡ 0
no_sums f p [] e = refl
no_sums f p (x ∷ xs) e =
    let parts : count_by p (f x) + sum_by (λ x. count_by p (f x)) xs ≡ 0 = sym (sum_by-cons (λ x. count_by p (f x)) x xs) ∙ e in
    let here : count_by p (f x) ≡ 0 = omega (arith, parts) in
    let rest : sum_by (λ x. count_by p (f x)) xs ≡ 0 = omega (arith, parts) in
    ap (λ b. cond b (suc (count (λ x. list_any p (f x)) xs)) (count (λ x. list_any p (f x)) xs)) (no_sum p (f x) here) ∙ no_sums f p xs rest

-- one passes in one of them
one_by : {X Y : Type 0} (f : X → List Y) (p : Y → Bool) (x : X) (xs : List X) (n : ℕ) → count_by p (f x) ≡ n → (sum_by (λ x. count_by p (f x)) xs ≡ 1 → count (λ x. list_any p (f x)) xs ≡ 1)
    → count_by p (f x) + sum_by (λ x. count_by p (f x)) xs ≡ 1 → count (λ x. list_any p (f x)) (x ∷ xs) ≡ 1
one_by f p x xs zero h more parts =
    ap (λ b. cond b (suc (count (λ x. list_any p (f x)) xs)) (count (λ x. list_any p (f x)) xs)) (no_sum p (f x) h) ∙ more (omega (arith, parts, h))
one_by f p x xs (suc n) h more parts =
    ap (λ b. cond b (suc (count (λ x. list_any p (f x)) xs)) (count (λ x. list_any p (f x)) xs)) (some_sum p n (f x) h) ∙ ap suc (no_sums f p xs (omega (arith, parts, h)))

pub one_sum : {X Y : Type 0} (f : X → List Y) (p : Y → Bool) (xs : List X) → sum_by (λ x. count_by p (f x)) xs ≡ 1 → count (λ x. list_any p (f x)) xs ≡ 1
one_sum f p [] e = absurd (let z : ⊥ = cc in z)
one_sum f p (x ∷ xs) e = one_by f p x xs (count_by p (f x)) refl (one_sum f p xs) (sym (sum_by-cons (λ x. count_by p (f x)) x xs) ∙ e)
