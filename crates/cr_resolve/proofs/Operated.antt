-- What an operator makes of its operands, by whether it compares them.
use Rattle.std.proofs.Common.{◌≡◌, ◌∙◌, Result, Ok, Err, refl, ap, sym, subst}
use Rattle.cr_tree.specs.declared.expr.Binary.{Binary as Operator}
use Rattle.cr_tree.specs.declared.expr.Binary.TheVariants as op
use Rattle.cr_term.specs.declared.operator.Comparison.{Comparison as Comparing}
use Rattle.cr_term.specs.declared.expr.Expr.{Expr}
use Rattle.cr_resolve.specs.declared.operator.Combination.{Combination as Combining}
use Rattle.cr_resolve.specs.declared.operator.Operation.{Operation}
use Rattle.cr_resolve.specs.declared.operator.Operation.TheVariants.{Comparison, Combination}
use Rattle.cr_resolve.specs.declared.refusal.Refusal.{Refusal}
use Rattle.cr_resolve.specs.declared.refusal.Refusal.TheVariants.{Memory}
use Rattle.cr_resolve.specs.declared.reading.Made.{Made}
use Rattle.cr_resolve.specs.Known.{Known}
use Rattle.cr_resolve.specs.Reading.{Read, with_both}
use Rattle.cr_resolve.specs.Expressions.{compared, binary}
use Rattle.cr_resolve.specs.Told.{told, Reads}
use Rattle.cr_resolve.specs.Compares.{Compares}
use Rattle.cr_resolve.specs.Operators.{operation_of, combine, Operates}

-- what an operation reads of two operands
abbrev pub by_operation : Known → Operation → Read Expr → Read Expr → Read Expr
by_operation known (Comparison c) x y = compared known c x y
by_operation known (Combination c) x y = with_both (combine c) x y

pub same : (known : Known) (o : Operator) (x y : Read Expr) → by_operation known (operation_of o) x y ≡ binary known o x y
same known op.Or x y = refl
same known op.And x y = refl
same known op.Equal x y = refl
same known op.Unequal x y = refl
same known op.Is x y = refl
same known op.IsNot x y = refl
same known op.Like x y = refl
same known op.NotLike x y = refl
same known op.Less x y = refl
same known op.AtMost x y = refl
same known op.Greater x y = refl
same known op.AtLeast x y = refl
same known op.Add x y = refl
same known op.Subtract x y = refl
same known op.Multiply x y = refl
same known op.Divide x y = refl
same known op.Remainder x y = refl
same known op.Join x y = refl

by : (known : Known) (o : Operator) (n : Operation) (x y : Read Expr) → operation_of o ≡ n → by_operation known n x y ≡ binary known o x y
by known o n x y is = ap (λ (m : Operation). by_operation known m x y) (sym is) ∙ same known o x y

pub memory : (known : Known) (o : Operator) (x y : Made Expr) → Operates known o x y (Err Memory)
unfolding Operates
memory known o x y = tt

pub compares : (known : Known) (o : Operator) (c : Comparing) (x y : Made Expr) (r : Result (Made Expr) Refusal) → operation_of o ≡ Comparison c
    → Compares known c x y r → Operates known o x y r
unfolding Operates Compares
compares known o c x y r is h = subst (λ (whole : Read Expr). Reads whole r) (by known o (Comparison c) (told x) (told y) is) h

pub combines : (known : Known) (o : Operator) (c : Combining) (x y : Made Expr) (r : Made Expr) → operation_of o ≡ Combination c
    → told r ≡ with_both (combine c) (told x) (told y) → Operates known o x y (Ok r)
unfolding Operates
combines known o c x y r is t = sym (by known o (Combination c) (told x) (told y) is) ∙ sym t
