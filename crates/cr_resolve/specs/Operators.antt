-- What an operator makes of its two operands, by whether it compares them. The last is kept closed, since how operands meet is
-- long.
use Rattle.std.specs.Prelude.{true, false, Result}
use Rattle.cr_tree.specs.declared.expr.Binary.{Binary as Operator}
use Rattle.cr_tree.specs.declared.expr.Binary.TheVariants as op
use Rattle.cr_term.specs.declared.operator.Arithmetic.TheVariants as a
use Rattle.cr_term.specs.declared.operator.Logic.TheVariants as l
use Rattle.cr_term.specs.declared.operator.Comparison.TheVariants as c
use Rattle.cr_term.specs.declared.expr.Expr.{Expr}
use Rattle.cr_term.specs.Nodes as e
use Rattle.cr_resolve.specs.declared.operator.Combination.{Combination as Combining}
use Rattle.cr_resolve.specs.declared.operator.Combination.TheVariants as by
use Rattle.cr_resolve.specs.declared.operator.Operation.{Operation}
use Rattle.cr_resolve.specs.declared.operator.Operation.TheVariants.{Comparison, Combination}
use Rattle.cr_resolve.specs.declared.refusal.Refusal.{Refusal}
use Rattle.cr_resolve.specs.declared.reading.Made.{Made}
use Rattle.cr_resolve.specs.Known.{Known}
use Rattle.cr_resolve.specs.Expressions.{binary}
use Rattle.cr_resolve.specs.Told.{told, Reads}

abbrev pub operation_of : Operator → Operation
operation_of op.Or = Combination (by.Logic l.Or)
operation_of op.And = Combination (by.Logic l.And)
operation_of op.Equal = Comparison c.Equal
operation_of op.Unequal = Comparison c.Unequal
operation_of op.Is = Comparison c.Is
operation_of op.IsNot = Comparison c.IsNot
operation_of op.Like = Combination (by.Like false)
operation_of op.NotLike = Combination (by.Like true)
operation_of op.Less = Comparison c.Less
operation_of op.AtMost = Comparison c.AtMost
operation_of op.Greater = Comparison c.Greater
operation_of op.AtLeast = Comparison c.AtLeast
operation_of op.Add = Combination (by.Arithmetic a.Add)
operation_of op.Subtract = Combination (by.Arithmetic a.Subtract)
operation_of op.Multiply = Combination (by.Arithmetic a.Multiply)
operation_of op.Divide = Combination (by.Arithmetic a.Divide)
operation_of op.Remainder = Combination (by.Arithmetic a.Remainder)
operation_of op.Join = Combination by.Join

abbrev pub combine : Combining → Expr → Expr → Expr
combine (by.Logic op) x y = e.Logic op x y
combine (by.Like negated) x y = e.Like negated x y
combine (by.Arithmetic op) x y = e.Arithmetic op x y
combine by.Join x y = e.Join x y

unfoldable pub Operates : Known → Operator → Made Expr → Made Expr → Result (Made Expr) Refusal → Type 0
Operates known op x y r = Reads (binary known op (told x) (told y)) r
