-- Filters and first finds.
use Rattle.std.proofs.Common.{◌≡◌, ℕ, zero, suc, ◌-◌, ◌≤◌, Bool, true, false, cond, ◌&&◌, List, [], ◌∷◌, length, take, drop, refl, sym, ap, ◌∙◌, arith}
use Rattle.std.specs.Prelude.{filter, find}
use Rattle.std.specs.Prelude.{Some}
use Rattle.std.specs.List.{AllWithin}
use Rattle.std.proofs.lemmas.List.{drop_all}

-- a find of what passes p, where all that passes p passes q, finds it among what passes q
pub find-filter : {X : Type 0} (p q : X → Bool) → ((x : X) → p x ≡ true → q x ≡ true) → (xs : List X) → find p (filter q xs) ≡ find p xs
find-filter p q f [] = refl
find-filter p q f (x ∷ xs) =
    elim (q x) as (λ b. q x ≡ b → find p (cond b (x ∷ filter q xs) (filter q xs)) ≡ find p (x ∷ xs)) [
      | true ↦ λ e. ap (λ r. cond (p x) (Some x) r) (find-filter p q f xs)
      | false ↦ λ e.
          elim (p x) as (λ b. p x ≡ b → find p (filter q xs) ≡ cond b (Some x) (find p xs)) [
            | true ↦ λ h. (let both : true ≡ false = sym (f x h) ∙ e in absurd cc)
            | false ↦ λ h. find-filter p q f xs
          ] refl
    ] refl

-- one test after another
pub filter-filter : {X : Type 0} (p q : X → Bool) → (xs : List X) → filter p (filter q xs) ≡ filter (λ x. q x && p x) xs
filter-filter p q [] = refl
filter-filter p q (x ∷ xs) =
    elim (q x) as (λ b. filter p (cond b (x ∷ filter q xs) (filter q xs)) ≡ cond (b && p x) (x ∷ filter (λ x. q x && p x) xs) (filter (λ x. q x && p x) xs)) [
      | true ↦ ap (λ l. cond (p x) (x ∷ l) l) (filter-filter p q xs)
      | false ↦ filter-filter p q xs
    ]

take-nil : {X : Type 0} (n : ℕ) → take n (let none : List X = [] in none) ≡ []
take-nil zero = refl
take-nil (suc n) = refl

-- the places from s to e pass, and no others
pub filter-part : {X : Type 0} (p : X → Bool) (xs : List X) (s e : ℕ) → s ≤ e → e ≤ length xs
    → AllWithin (λ x. p x ≡ false) xs 0 s → AllWithin (λ x. p x ≡ true) xs s e → AllWithin (λ x. p x ≡ false) xs e (length xs)
    → take (e - s) (drop s xs) ≡ filter p xs
filter-part {X} p [] s e low high front mid back =
    let none : drop s (let none : List X = [] in none) ≡ [] = drop_all s [] (omega arith) in
    ap (take (e - s)) none ∙ take-nil (e - s)
filter-part p (x ∷ xs) zero zero low high front mid back =
    let off : p x ≡ false = back 0 x (omega arith) (omega arith) in
    rw off
    (filter-part p xs zero zero (omega arith) (omega arith)
    (λ k d lo hi. absurd (omega arith))
    (λ k d lo hi. absurd (omega arith))
    (λ k d lo hi. back (suc k) d (omega arith) (omega arith)))
filter-part p (x ∷ xs) zero (suc e) low high front mid back =
    let on : p x ≡ true = mid 0 x (omega arith) (omega arith) in
    let whole : suc e - 0 ≡ suc e = omega arith in
    let rest : e - 0 ≡ e = omega arith in
    let more = filter-part p xs zero e (omega arith) (omega arith)
    (λ k d lo hi. absurd (omega arith))
    (λ k d lo hi. mid (suc k) d (omega arith) (omega arith))
    (λ k d lo hi. back (suc k) d (omega arith) (omega arith)) in
    rw (whole, on) (ap (λ l. x ∷ l) (ap (λ n. take n xs) (sym rest) ∙ more))
filter-part p (x ∷ xs) (suc s) zero low high front mid back = absurd (omega arith)
filter-part p (x ∷ xs) (suc s) (suc e) low high front mid back =
    let off : p x ≡ false = front 0 x (omega arith) (omega arith) in
    let less : suc e - suc s ≡ e - s = omega arith in
    rw (less, off)
    (filter-part p xs s e (omega arith) (omega arith)
    (λ k d lo hi. front (suc k) d (omega arith) (omega arith))
    (λ k d lo hi. mid (suc k) d (omega arith) (omega arith))
    (λ k d lo hi. back (suc k) d (omega arith) (omega arith)))
