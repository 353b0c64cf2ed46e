-- The rows of a table, one key after another. Source: this project's own.
use Rattle.std.specs.Prelude.{◌≡◌, ◌⊎◌, ℕ, Bool, true, cond, List, [], ◌∷◌, ◌++◌, unwrap_or}
use Rattle.std.specs.List.{list_any}
use Rattle.std.specs.List.Sorted.{IsSortedBy}
use Rattle.cr_value.specs.declared.value.Value.{Value}
use Rattle.cr_value.specs.Unpacking.{unpacked}
use Rattle.cr_lattice.specs.declared.change.Change.{Change}
use Rattle.cr_lattice.specs.Rows.{has_lesser_key, is_present, is_under}

-- the changes at the front that are under a key, and those behind them
abbrev pub front : List ℕ → List Change → List Change
front pk [] = []
front pk (c ∷ cs) = cond (is_under pk c) (c ∷ front pk cs) []

abbrev pub behind : List ℕ → List Change → List Change
behind pk [] = []
behind pk (c ∷ cs) = cond (is_under pk c) (behind pk cs) (c ∷ cs)

-- the key of the first change
abbrev pub first_key : List Change → List ℕ
first_key [] = []
first_key (c ∷ cs) = c.pk

-- the changes of the first key, and those of the later ones
abbrev pub first_group : List Change → List Change
first_group cs = front (first_key cs) cs

abbrev pub later_groups : List Change → List Change
later_groups cs = behind (first_key cs) cs

-- some change speaks of a row that is present
abbrev pub is_shown : List ℕ → List Change → Bool
is_shown table group = list_any (is_present table) group

abbrev pub key_values : List Change → List Value
key_values group = unwrap_or (unpacked (first_key group)) []

-- A reading stands on the changes of a key whose row is present, with those of later keys behind them, or there are no more.
pub record Stands (table : List ℕ) (group later : List Change) (key : List Value) : Type 0 where
  pub sorted : IsSortedBy has_lesser_key (group ++ later)
  pub first : group ≡ first_group (group ++ later)
  pub there : (is_shown table group ≡ true) ⊎ ((group ≡ []) × (later ≡ []))
  pub key_is : key ≡ key_values group
