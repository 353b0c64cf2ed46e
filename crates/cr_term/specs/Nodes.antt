-- Expressions of their parts, node by node, as folds see them: each is the variant of its name (`rolls-Literal` and its like).
use Rattle.std.specs.Prelude.{ℕ, ℤ, Bool, List, Option}
use Rattle.cr_value.specs.declared.value.Value.{Value}
use Rattle.cr_value.specs.declared.cast.CastTo.{CastTo}
use Rattle.cr_term.specs.declared.expr.Column.{Column as Field}
use Rattle.cr_term.specs.declared.operator.Unary.{Unary as Sign}
use Rattle.cr_term.specs.declared.operator.Arithmetic.{Arithmetic as Operator}
use Rattle.cr_term.specs.declared.operator.Logic.{Logic as Junction}
use Rattle.cr_term.specs.declared.operator.Comparison.{Comparison}
use Rattle.cr_term.specs.declared.operator.Meeting.{Meeting}
use Rattle.cr_term.specs.declared.operator.BuiltIn.{BuiltIn as Own}
use Rattle.cr_term.specs.declared.operator.Aggregate.{Aggregate as Kind}
use Rattle.cr_term.specs.declared.expr.When.{When}
use Rattle.cr_term.specs.declared.expr.Expr.{Expr, roll-Expr}
use Rattle.cr_term.specs.declared.expr.Expr.TheOpen as layer

abbrev pub Literal : Value → Expr
Literal v = roll-Expr (layer.Literal v)

abbrev pub Param : ℕ → Expr
Param n = roll-Expr (layer.Param n)

abbrev pub Column : Field → Expr
Column c = roll-Expr (layer.Column c)

abbrev pub Shown : ℕ → Expr → Expr
Shown n x = roll-Expr (layer.Shown n x)

abbrev pub Unary : Sign → Expr → Expr
Unary op x = roll-Expr (layer.Unary op x)

abbrev pub Arithmetic : Operator → Expr → Expr → Expr
Arithmetic op x y = roll-Expr (layer.Arithmetic op x y)

abbrev pub Join : Expr → Expr → Expr
Join x y = roll-Expr (layer.Join x y)

abbrev pub Like : Bool → Expr → Expr → Expr
Like n x y = roll-Expr (layer.Like n x y)

abbrev pub Logic : Junction → Expr → Expr → Expr
Logic op x y = roll-Expr (layer.Logic op x y)

abbrev pub Compare : Comparison → Meeting → Expr → Expr → Expr
Compare op m x y = roll-Expr (layer.Compare op m x y)

abbrev pub Collate : Expr → List ℕ → Expr
Collate x name = roll-Expr (layer.Collate x name)

abbrev pub Cast : CastTo → Expr → Expr
Cast to x = roll-Expr (layer.Cast to x)

abbrev pub In : Bool → Meeting → Expr → List Expr → Expr
In n m x items = roll-Expr (layer.In n m x items)

abbrev pub Between : Bool → Meeting → Meeting → Expr → Expr → Expr → Expr
Between n m l x low high = roll-Expr (layer.Between n m l x low high)

abbrev pub Case : Option Expr → List When → Option Expr → Expr
Case x arms other = roll-Expr (layer.Case x arms other)

abbrev pub BuiltIn : Own → List Expr → Expr
BuiltIn f args = roll-Expr (layer.BuiltIn f args)

abbrev pub Host : List ℕ → List Expr → Expr
Host name args = roll-Expr (layer.Host name args)

abbrev pub Aggregate : Kind → List Expr → Expr
Aggregate kind args = roll-Expr (layer.Aggregate kind args)

abbrev pub SiteId : List ℕ → Expr
SiteId bytes = roll-Expr (layer.SiteId bytes)

abbrev pub DbVersion : ℤ → Expr
DbVersion n = roll-Expr (layer.DbVersion n)
