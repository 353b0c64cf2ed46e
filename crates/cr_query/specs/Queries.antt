-- Queries and writes whose names are resolved, over expressions of any kind. A combination is one row: the columns of its
-- tables in the order of FROM.
use Rattle.std.specs.Prelude.{ℕ, Bool, List, Option}
use Rattle.cr_value.specs.declared.value.Value.{Value}

-- a table in FROM: the number of its columns, whether a LEFT JOIN brings it, and the AND-terms of that one's ON
pub record Joining (E : Type 0) : Type 0 where
  pub width : ℕ
  pub left : Bool
  pub on : List E

-- a term of ORDER BY
pub record Term (E : Type 0) : Type 0 where
  pub expr : E
  pub descending : Bool

-- a SELECT; its terms are the AND-terms of WHERE and of every inner ON, in source order
pub record Query (E : Type 0) : Type 0 where
  pub sources : List (Joining E)
  pub terms : List E
  pub is_grouped : Bool
  pub group : List E
  pub having : Option E
  pub results : List E
  pub is_distinct : Bool
  pub order : List (Term E)
  pub offset : ℕ
  pub limit : Option ℕ

-- a result row, with the values of the terms that order it
pub record Shown : Type 0 where
  pub row : List Value
  pub keys : List Value

-- INSERT: for each tuple a row, whose values stand at these places; ignored, it does nothing
pub record Insert (E : Type 0) : Type 0 where
  pub places : List ℕ
  pub tuples : List (List E)
  pub is_ignored : Bool

-- a column takes the value of an expression over the row before
pub record Assignment (E : Type 0) : Type 0 where
  pub place : ℕ
  pub expr : E

-- UPDATE, of the rows on which these terms are true
pub record Update (E : Type 0) : Type 0 where
  pub assignments : List (Assignment E)
  pub terms : List E

-- DELETE, of the rows on which these terms are true
pub record Delete (E : Type 0) : Type 0 where
  pub terms : List E
