-- Where an expression of a query or of a write has something, as a fault: on each combination and over each group to which the
-- statement comes with it. Source: this project's own.
use Rattle.std.specs.Prelude.{◌≡◌, ◌⊎◌, Bool, true, false, List, [], ◌∷◌, ◌++◌, map, Option, Some, None, IsSomeAnd}
use Rattle.std.specs.Option.{option_and_then, option_to_list}
use Rattle.cr_bags.specs.Bags.{gather, single}
use Rattle.cr_query.specs.Query.{Row, Group, Meaning, is_true, quiet_first, holds, with_rows, joined_with, combined, joined, groups, has}
use Rattle.cr_query.specs.Queries.{Joining, Query, Insert, Update, Delete}

-- it holds of one of these
abbrev pub OfOne : {X : Type 0} → (X → Type 0) → List X → Type 0
OfOne P [] = ⊥
OfOne P (x ∷ xs) = P x ⊎ OfOne P xs

-- what a query shows, and by what it sorts that
abbrev pub operands : {E : Type 0} → Query E → List E
operands q = q.results ++ map (λ t. t.expr) q.order

-- Where an expression has what is looked for: on a row, over a group, or in its truth there.
module _ {E : Type 0} (m : Meaning E) (on_row : E → Row → Type 0) (over : E → Group → Type 0) (true_on_row : E → Row → Type 0) (true_over : E → Group → Type 0) where
  -- one of these does behind such as are true
  abbrev pub OneHas : List E → Row → Type 0
  OneHas [] c = ⊥
  OneHas (e ∷ es) c = true_on_row e c ⊎ ((is_true m e c ≡ Some true) × OneHas es c)

  -- of terms the quiet ones come first
  abbrev pub TermsHave : List E → Row → Type 0
  TermsHave es c = OneHas (quiet_first m es) c

  -- The ON of a LEFT JOIN does, on a combination of the tables before it with a row of its own.
  abbrev pub OnsHave : List (Joining E) → List (List Row) → List Row → Type 0
  OnsHave [] tables cs = ⊥
  OnsHave (j ∷ js) [] cs = ⊥
  OnsHave (j ∷ js) (rows ∷ tables) cs = ((j.left ≡ true) × OfOne (λ c. OfOne (TermsHave j.on) (with_rows c rows)) cs) ⊎ IsSomeAnd (gather (joined_with m j rows) cs) (OnsHave js tables)

  -- HAVING does, or what is shown of a group on which it is true
  abbrev pub GroupHas : Query E → Group → Type 0
  GroupHas q g = OfOne (λ e. true_over e g) (option_to_list q.having) ⊎ ((has m q.having (λ e. m.over e g) ≡ Some true) × OfOne (λ e. over e g) (operands q))

  -- of the combinations that are kept, in groups or not
  abbrev pub KeptHave : Bool → Query E → List Row → Type 0
  KeptHave true q cs = OfOne (λ c. OfOne (λ e. on_row e c) q.group) cs ⊎ IsSomeAnd (groups m q.group cs) (OfOne (GroupHas q))
  KeptHave false q cs = OfOne (λ c. OfOne (λ e. on_row e c) (operands q)) cs

  abbrev pub QueryHas : Query E → List (List Row) → Type 0
  QueryHas q tables = OnsHave q.sources tables (single []) ⊎ (IsSomeAnd (combined m q.sources tables (single [])) (OfOne (TermsHave q.terms)) ⊎ IsSomeAnd (joined m q tables) (KeptHave q.is_grouped q))

  -- of one tuple
  abbrev pub InsertHas : Insert E → Type 0
  InsertHas w = (w.is_ignored ≡ false) × OfOne (OfOne (λ e. on_row e [])) w.tuples

  -- on one row of the table, the values where its terms are true
  abbrev pub UpdateHas : Update E → List Row → Type 0
  UpdateHas w rows = OfOne (λ row. TermsHave w.terms row ⊎ ((holds m w.terms row ≡ Some true) × OfOne (λ a. on_row a.expr row) w.assignments)) rows

  abbrev pub DeleteHas : Delete E → List Row → Type 0
  DeleteHas w rows = OfOne (TermsHave w.terms) rows

-- ---- nothing

module _ {E : Type 0} (m : Meaning E) where
  abbrev pub Valueless : E → Row → Type 0
  Valueless e c = m.value e c ≡ None

  abbrev pub ValuelessOver : E → Group → Type 0
  ValuelessOver e g = m.over e g ≡ None

  -- neither true nor not true
  abbrev pub Truthless : E → Row → Type 0
  Truthless e c = is_true m e c ≡ None

  abbrev pub TruthlessOver : E → Group → Type 0
  TruthlessOver e g = option_and_then m.truth (m.over e g) ≡ None

  abbrev pub QueryLacks : Query E → List (List Row) → Type 0
  QueryLacks = QueryHas m Valueless ValuelessOver Truthless TruthlessOver

  abbrev pub InsertLacks : Insert E → Type 0
  InsertLacks = InsertHas m Valueless ValuelessOver Truthless TruthlessOver

  abbrev pub UpdateLacks : Update E → List Row → Type 0
  UpdateLacks = UpdateHas m Valueless ValuelessOver Truthless TruthlessOver

  abbrev pub DeleteLacks : Delete E → List Row → Type 0
  DeleteLacks = DeleteHas m Valueless ValuelessOver Truthless TruthlessOver
