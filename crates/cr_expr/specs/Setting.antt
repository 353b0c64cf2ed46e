-- What an expression is evaluated over.
use Rattle.std.specs.Prelude.{ℕ, List, Option}
use Rattle.cr_value.specs.declared.value.Value.{Value}
use Rattle.cr_scalar.specs.Host.{Host}
use Rattle.cr_expr.specs.declared.given.Given.{Given}

pub record Setting : Type 0 where
  -- the greatest size of a value, if there is one
  pub most : Option ℕ
  -- a combination: the columns of the tables in FROM, one after another
  pub row : List Value
  pub params : List Value
  -- the combinations of a group, and the values that it shows for its terms
  pub group : List (List Value)
  pub shown : List Value
  pub host : Host

abbrev pub setting : Option ℕ → Host → Given → Setting
setting most host g = record { most = most; row = g.row.now; params = g.params.now; group = g.group.now; shown = g.shown.now; host = host }

-- the same over another row
abbrev pub over : Setting → List Value → Setting
over s row = record s { row = row }
