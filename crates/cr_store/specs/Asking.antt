-- The rows of a store's tables as they are asked for.
use Rattle.std.specs.Prelude.{◌≡◌, ℕ, List, [], ◌∷◌, map, IsTrue}
use Rattle.std.specs.List.Sorted.{IsPermutation}
use Rattle.sqlite.specs.Order.{Row}
use Rattle.sqlite.specs.Effect.{Database}
use Rattle.sqlite.specs.State.{State}
use Rattle.sqlite_value.specs.Order.{column}
use Rattle.cr_store.specs.declared.format.Format.{Format}
use Rattle.cr_store.specs.declared.format.Format.TheVariants.{First, Second}

abbrev pub columns_3 : Row → Row
columns_3 r = column r 0 ∷ column r 1 ∷ column r 2 ∷ []

abbrev pub columns_5 : Row → Row
columns_5 r = column r 0 ∷ column r 1 ∷ column r 2 ∷ column r 3 ∷ column r 4 ∷ []

abbrev pub columns_10 : Row → Row
columns_10 r = column r 0 ∷ column r 1 ∷ column r 2 ∷ column r 3 ∷ column r 4 ∷ column r 5 ∷ column r 6 ∷ column r 7 ∷ column r 8 ∷ column r 9 ∷ []

-- no rows are asked of a table that isn't there
abbrev pub AreOld : Format → Database → List Row → Type 0
AreOld First db rows = rows ≡ []
AreOld Second db rows = IsPermutation (map columns_10 (db.trees 4)) rows

-- where the cells are
abbrev pub tree_of : Format → ℕ
tree_of First = 4
tree_of Second = 8

-- the rowid and the columns of each row of each table, in any order
pub record AreRowsOf (f : Format) (db : Database) (meta tables old cells marks : List Row) : Type 0 where
  pub meta_are : IsPermutation (map columns_3 (db.trees 0)) meta
  pub tables_are : IsPermutation (map columns_5 (db.trees 2)) tables
  pub old_are : AreOld f db old
  pub cells_are : IsPermutation (map columns_10 (db.trees (tree_of f))) cells
  pub marks_are : IsPermutation (map columns_3 (db.trees 6)) marks

-- a connection that is open was so before, and shows what it did
pub record OnlyAsks (old new : State) : Type 0 where
  pub was_open : IsTrue new.is_open → IsTrue old.is_open
  pub same : IsTrue new.is_open → new.now ≡ old.now
