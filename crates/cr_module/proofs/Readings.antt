-- What is read of a module without constraints: its rows.
use Rattle.std.proofs.Common.{◌≡◌, ℕ, zero, suc, ◌+◌, ◌<◌, arith, true, false, List, [], ◌∷◌, ◌++◌, refl, sym, ap, subst, ◌∙◌, take, filter, length, append-nil, append_assoc}
use Rattle.std.specs.List.{AllByRecursion}
use Rattle.cr_value.specs.declared.value.Value.{Value}
use Rattle.cr_bags.specs.Bags.{SameBag}
use Rattle.cr_query.specs.Query.{Row}
use Rattle.cr_module.specs.declared.plan.Argument.{Argument}
use Rattle.cr_module.specs.declared.plan.Choice.{Choice}
use Rattle.cr_module.specs.declared.plan.Constraint.{Constraint}
use Rattle.cr_module.specs.declared.plan.Order.{Order}
use Rattle.cr_module.specs.Lawful.{IsChoice, IsFiltered, IsRead, first_row, is_at_end, is_usable_at, meets_all, rest_of, value_at}

-- ---- a row

more_taken : (row : Row) (n : ℕ) → n < length row → take n row ++ value_at n row ∷ [] ≡ take (suc n) row
more_taken [] n few = absurd (omega (arith, few))
more_taken (v ∷ vs) zero few = refl
more_taken (v ∷ vs) (suc n) few = ap (λ (xs : List Value). v ∷ xs) (more_taken vs n (omega (arith, few)))

-- one value more
pub next_value : (row : Row) (n : ℕ) → n < length row → take n row ++ value_at n row ∷ [] ≡ take (n + 1) row
next_value row n few = more_taken row n few ∙ (let one : suc n ≡ n + 1 = omega arith in ap (λ (k : ℕ). take k row) one)

-- ---- rows

-- one row more
pub next_row : (rows left whole : List Row) → is_at_end left ≡ false → rows ++ left ≡ whole → (rows ++ first_row left ∷ []) ++ rest_of left ≡ whole
next_row rows [] whole some e = absurd (let z : ⊥ = cc in z)
next_row rows (row ∷ left) whole some e = append_assoc rows (row ∷ []) left ∙ e

pub fewer : (left : List Row) → is_at_end left ≡ false → length (rest_of left) < length left
fewer [] some = absurd (let z : ⊥ = cc in z)
fewer (row ∷ left) some = omega arith

pub all_rows : (rows left whole : List Row) → is_at_end left ≡ true → rows ++ left ≡ whole → rows ≡ whole
all_rows rows [] whole none e = sym (append-nil rows) ∙ e
all_rows rows (row ∷ left) whole none e = absurd (let z : ⊥ = cc in z)

module _ (n : ℕ) where
  abbrev pub AllWide : List Row → Type 0
  AllWide rows = AllByRecursion (λ row. length row ≡ n) rows

  pub first_wide : (left : List Row) → is_at_end left ≡ false → AllWide left → length (first_row left) ≡ n
  first_wide [] some wide = absurd (let z : ⊥ = cc in z)
  first_wide (row ∷ left) some wide = wide.0

  pub rest_wide : (left : List Row) → is_at_end left ≡ false → AllWide left → AllWide (rest_of left)
  rest_wide [] some wide = absurd (let z : ⊥ = cc in z)
  rest_wide (row ∷ left) some wide = wide.1

-- ---- without constraints

no_argument : (args : List Argument) → AllByRecursion (λ a. is_usable_at [] a.constraint ≡ true) args → args ≡ []
no_argument [] all = refl
no_argument (a ∷ args) all = absurd (let z : ⊥ = cc in z)

all_pass : (rows : List Row) → filter (λ row. true) rows ≡ rows
all_pass [] = refl
all_pass (row ∷ rows) = ap (λ (rs : List Row). row ∷ rs) (all_pass rows)

-- each row comes as often as it is there
pub all_read : (best : List Constraint → List Order → Choice) (rows got : List Row) (choice : Choice) → choice ≡ best [] [] → IsChoice [] choice → IsFiltered best rows choice.index [] got → SameBag got rows
all_read best rows got choice e usable filtered =
    let none : (best [] []).args ≡ [] = ap (λ (c : Choice). c.args) (sym e) ∙ no_argument choice.args usable in
    let read : IsRead rows [] [] (best [] []) [] got = filtered [] [] (ap (λ (c : Choice). c.index) (sym e)) (sym (ap (λ (args : List Argument). length args) none)) in
    let same : SameBag (filter (λ row. true) got) (filter (λ row. true) rows) =
    subst (λ (args : List Argument). SameBag (filter (meets_all [] args []) got) (filter (meets_all [] args []) rows)) none read.gives.omits_none in
    subst (λ (xs : List Row). SameBag xs rows) (all_pass got) (subst (λ (xs : List Row). SameBag (filter (λ row. true) got) xs) (all_pass rows) same)
