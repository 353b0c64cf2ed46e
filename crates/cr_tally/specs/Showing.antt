-- Expressions over a group with their aggregates shown. Source: this project's own.
use Rattle.std.specs.Prelude.{◌≡◌, List, [], ◌∷◌, ◌++◌, map, Option, Ok}
use Rattle.std.specs.List.{AllZip}
use Rattle.std.specs.Option.{option_map}
use Rattle.cr_value.specs.declared.value.Value.{Value}
use Rattle.cr_term.specs.declared.expr.Expr.{Expr}
use Rattle.cr_term.specs.declared.expr.Expr as e
use Rattle.cr_term.specs.declared.expr.When.{When}
use Rattle.cr_expr.specs.Setting.{Setting}
use Rattle.cr_expr.specs.Eval.{each, eval_of, if_any, meaning, or_null}
use Rattle.cr_tally.specs.declared.show.Call.{Call}

-- nothing is shown but these, and no row is looked at
abbrev pub showing : Setting → List Value → Setting
showing s vs = record s { group = []; shown = vs }

-- the first values are those of the aggregates
abbrev pub AreKnown : Setting → List Call → List Value → Type 0
AreKnown s [] vs = Unit {0}
AreKnown s (c ∷ cs) [] = ⊥
AreKnown s (c ∷ cs) (v ∷ vs) = (eval_of s (e.Aggregate c.kind.now c.args.now) ≡ Ok v) × AreKnown s cs vs

-- where aggregates have values, and these are shown, what is said of two settings holds
pub record Known (old new : List Call) (Same : Setting → Setting → Type 0) : Type 0 where
  -- those that were put behind others
  pub more : List Call
  pub grown : new ≡ old ++ more
  pub same : (s : Setting) (vs : List Value) → s.shown ≡ [] → AreKnown s new vs → Same s (showing s vs)

abbrev pub Shows : List Call → List Call → Expr → Expr → Type 0
Shows old new x y = Known old new (λ s t. eval_of s x ≡ eval_of t y)

abbrev pub ShowsIfAny : List Call → List Call → Option Expr → Option Expr → Type 0
ShowsIfAny old new x y = Known old new (λ s t. (if_any s (option_map meaning x) ≡ if_any t (option_map meaning y)) × (or_null s (option_map meaning x) ≡ or_null t (option_map meaning y)))

abbrev pub ShowsAll : List Call → List Call → List Expr → List Expr → Type 0
ShowsAll old new xs ys = Known old new (λ s t. each (map meaning xs) s ≡ each (map meaning ys) t)

-- how the operand is met is the same, and so are the values
abbrev pub SameArm : Setting → Setting → When → When → Type 0
SameArm s t x y = (x.meeting ≡ y.meeting) × (eval_of s x.when ≡ eval_of t y.when) × (eval_of s x.then ≡ eval_of t y.then)

abbrev pub ShowsArms : List Call → List Call → List When → List When → Type 0
ShowsArms old new xs ys = Known old new (λ s t. AllZip (SameArm s t) xs ys)
