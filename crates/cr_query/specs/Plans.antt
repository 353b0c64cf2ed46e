-- What a lawful source gives, and what a statement sees of its tables. Source: SQLite's virtual table document, as far as
-- it asks of a module; that each row comes at most as often as it is there is this project's own.
use Rattle.std.specs.Prelude.{◌≡◌, ◌≤◌, ℕ, Bool, true, false, cond, filter, map, List, [], ◌∷◌, Option, Some, None}
use Rattle.cr_value.specs.declared.value.Value.TheVariants.{Null}
use Rattle.cr_bags.specs.Bags.{SameBag, weight}
use Rattle.cr_query.specs.Query.{Row, Meaning, is_true}

-- got has no row more often than rows, and each that meets the constraints as often
pub record Gives {X : Type 0} (meets : X → Bool) (rows got : List X) : Type 0 where
  pub at_most : (f : X → ℕ) → weight f got ≤ weight f rows
  pub omits_none : SameBag (filter meets got) (filter meets rows)

abbrev pub is_false : Option Bool → Bool
is_false None = false
is_false (Some true) = false
is_false (Some false) = true

-- quiet terms never fault
abbrev pub QuietIsSafe : {E : Type 0} → Meaning E → Type 0
QuietIsSafe {E} m = (e : E) (c : Row) → m.quiet e ≡ true → is_true m e c ≡ None → ⊥

-- NULL for the columns that a statement has none of
abbrev pub masked : List Bool → Row → Row
masked [] row = row
masked (b ∷ bs) [] = []
masked (b ∷ bs) (v ∷ vs) = cond b v Null ∷ masked bs vs

abbrev pub seen : List (List Bool) → List (List Row) → List (List Row)
seen [] tables = tables
seen (s ∷ ss) [] = []
seen (s ∷ ss) (t ∷ ts) = map (masked s) t ∷ seen ss ts

-- what stands was allowed
abbrev pub Within : List Bool → List Bool → Type 0
Within [] [] = Unit {0}
Within [] (b ∷ bs) = ⊥
Within (a ∷ rest) [] = ⊥
Within (a ∷ rest) (b ∷ bs) = (a ≡ true → b ≡ true) × Within rest bs

abbrev pub AllWithin : List (List Bool) → List (List Bool) → Type 0
AllWithin [] [] = Unit {0}
AllWithin [] (b ∷ bs) = ⊥
AllWithin (a ∷ rest) [] = ⊥
AllWithin (a ∷ rest) (b ∷ bs) = Within a b × AllWithin rest bs
