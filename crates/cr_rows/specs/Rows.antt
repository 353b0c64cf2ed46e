-- The rows of a table as a list of what its columns hold, in no order.
use Rattle.std.specs.Prelude.{◌≡◌, ◌≢◌, ℤ, List, ◌∷◌}
use Rattle.sqlite.specs.declared.types.Value.TheVariants.{Int}
use Rattle.sqlite.specs.Order.{Row}
use Rattle.sqlite_rules.specs.Lists.{Has}
use Rattle.sqlite_trees.specs.Tree.{rowid, IsAscending}

-- no rowid comes twice
abbrev pub AreApart : List Row → Type 0
AreApart = IsAscending (λ a b. rowid a ≢ rowid b)

-- a rowid, and then one of these
abbrev pub IsListed : List Row → Row → Type 0
IsListed shown r = (id : ℤ) × (x : Row) × (r ≡ Int id ∷ x) × Has shown x

-- The rows show these, in any order: each row is a rowid and one of these, each of these has a row, and no rowid comes
-- twice. Who reads the rows with their rowids can tell.
pub record Lists (rows shown : List Row) : Type 0 where
  pub apart : AreApart rows
  pub sound : (r : Row) → Has rows r → IsListed shown r
  pub complete : (x : Row) → Has shown x → (id : ℤ) × Has rows (Int id ∷ x)

-- the same rows, in any order and any number
pub record SameRows (xs ys : List Row) : Type 0 where
  pub to : (r : Row) → Has xs r → Has ys r
  pub from : (r : Row) → Has ys r → Has xs r
