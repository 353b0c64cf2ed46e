-- What evaluations tell to queries. Source: this project's own.
use Rattle.std.specs.Prelude.{◌≡◌, Bool, true, false, not, Option, Some, None, Ok}
use Rattle.cr_term.specs.declared.operator.Unary.{Unary}
use Rattle.cr_term.specs.declared.operator.Unary.TheVariants as unary
use Rattle.cr_scalar.specs.Numbers.{truth_value}
use Rattle.cr_value.specs.declared.value.Value.{Value}
use Rattle.cr_term.specs.declared.expr.Expr.{Expr}
use Rattle.cr_expr.specs.Setting.{Setting}
use Rattle.cr_expr.specs.Eval.{eval_of}

-- an expression of a kind has this value
pub record HasValue (kind : Expr → Bool) (s : Setting) (e : Expr) (v : Value) : Type 0 where
  pub of_kind : kind e ≡ true
  pub value : eval_of s e ≡ Ok v

-- whether a null test wants a NULL
abbrev pub null_wanted : Unary → Option Bool
null_wanted unary.Not = None
null_wanted unary.Plus = None
null_wanted unary.Minus = None
null_wanted unary.IsNull = Some true
null_wanted unary.NotNull = Some false

abbrev pub null_test : Bool → Bool → Value
null_test is_null true = truth_value (Some is_null)
null_test is_null false = truth_value (Some (not is_null))
