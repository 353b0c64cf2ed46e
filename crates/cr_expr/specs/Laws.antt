-- What holds of every expression.
use Rattle.std.specs.Prelude.{◌≡◌, ◌≢◌, ◌⊎◌, IsTrue, List, [], get_or, None, Ok, Err}
use Rattle.std.specs.List.{AllByRecursion, AllZip}
use Rattle.cr_value.specs.declared.value.Value.{Value}
use Rattle.cr_value.specs.declared.value.Value.TheVariants.{Null}
use Rattle.cr_term.specs.declared.expr.Column.{Column}
use Rattle.cr_term.specs.Parts.{columns, aggregates}
use Rattle.cr_term.specs.declared.expr.Expr.{Expr}
use Rattle.cr_term.specs.Terms.{quiet}
use Rattle.cr_scalar.specs.declared.fault.EvalFault.TheVariants.{TooBig}
use Rattle.cr_scalar.specs.Meaning.{Outcome, and_then}
use Rattle.cr_scalar.specs.Numbers.{truth}
use Rattle.cr_expr.specs.Setting.{Setting}
use Rattle.cr_expr.specs.Eval.{eval_of}

-- no limit of size
abbrev pub unlimited : Setting → Setting
unlimited s = record s { most = None }

-- a value, and no fault
abbrev pub HasValue : {A : Type 0} → Outcome A → Type 0
HasValue (Ok v) = Unit {0}
HasValue (Err e) = ⊥

-- A quiet expression has a value, and so has the question whether it is true, but for values over the limit.
abbrev pub QuietNeverFaults : Type 0
QuietNeverFaults = (e : Expr) (s : Setting) → IsTrue (quiet e) → HasValue (and_then (eval_of (unlimited s) e) truth)

-- The limit of size takes values away and changes none.
abbrev pub LimitTakesAway : Type 0
LimitTakesAway = (e : Expr) (s : Setting) → eval_of s e ≢ Err TooBig → eval_of (unlimited s) e ≡ eval_of s e

-- two rows have the same values in these columns
abbrev pub AgreeOn : List Column → List Value → List Value → Type 0
AgreeOn cs row other = AllByRecursion (λ c. get_or row c.at Null ≡ get_or other c.at Null) cs

-- two settings differ, if at all, in what the expression does not read: in other columns of the row and of the rows of the group, and
-- in the group where no aggregate stands in it
pub record Agrees (e : Expr) (s t : Setting) : Type 0 where
  pub most : s.most ≡ t.most
  pub params : s.params ≡ t.params
  pub shown : s.shown ≡ t.shown
  pub host : s.host ≡ t.host
  pub row : AgreeOn (columns e) s.row t.row
  pub group : (aggregates e ≡ []) ⊎ AllZip (AgreeOn (columns e)) s.group t.group

-- An expression reads the columns that stand in it, and no other, and the group only where an aggregate does.
abbrev pub ReadsItsColumns : Type 0
ReadsItsColumns = (e : Expr) (s t : Setting) → Agrees e s t → eval_of s e ≡ eval_of t e
