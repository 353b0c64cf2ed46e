-- Languages: what there is to write, how it is written, and what it means.
use Rattle.std.specs.Prelude.{◌≤◌, List}
use Rattle.cr_tree.specs.declared.symbol.Symbol.{Symbol}
use Rattle.cr_tree.specs.declared.expr.Expr.{Expr}
use Rattle.cr_tree.specs.declared.limits.Limits.{Limits}
use Rattle.cr_tree.specs.Grammar.{Phrase, spelled, tree, IsProper, height, opened, most_commas}

pub record Language (A : Type 0) : Type 1 where
  -- what is written
  pub D : Type 0
  -- what is within limits
  pub fits : Limits → D → Type 0
  pub words : D → List Symbol
  pub value : D → A

-- an expression, no higher, with no more open parentheses, and no more commas in a call
pub record IsWithin (lim : Limits) (p : Phrase) : Type 0 where
  pub proper : IsProper p
  pub low : height p ≤ lim.room
  pub few : opened p ≤ lim.opens
  pub short : most_commas p ≤ lim.commas

abbrev pub expr : Language Expr
expr = record { D = Phrase; fits = IsWithin; words = spelled; value = tree }
