-- Whether two expressions are the same, parentheses aside: the same names, values and operators in the same places.
use Rattle.std.specs.Prelude.{ℕ, ◌==◌, Bool, true, false, ◌&&◌, List, [], ◌∷◌, Option, Some, None}
use Rattle.std.specs.Ordering.{is_eq, int_eq}
use Rattle.std.specs.Str.{bytes_eq}
use Rattle.cr_term.specs.At.{at}
use Rattle.cr_value.specs.declared.value.Value.{Value}
use Rattle.cr_value.specs.Order.{value_cmp}
use Rattle.cr_value.specs.declared.cast.CastTo.{CastTo}
use Rattle.cr_value.specs.declared.cast.CastTo.TheVariants as to
use Rattle.cr_term.specs.declared.operator.Unary.{Unary as Sign}
use Rattle.cr_term.specs.declared.operator.Unary.TheVariants as u
use Rattle.cr_term.specs.declared.operator.Arithmetic.{Arithmetic as Operator}
use Rattle.cr_term.specs.declared.operator.Arithmetic.TheVariants as a
use Rattle.cr_term.specs.declared.operator.Logic.{Logic as Junction}
use Rattle.cr_term.specs.declared.operator.Logic.TheVariants as l
use Rattle.cr_term.specs.declared.operator.Comparison.{Comparison}
use Rattle.cr_term.specs.declared.operator.Comparison.TheVariants as c
use Rattle.cr_term.specs.declared.operator.BuiltIn.{BuiltIn as Own}
use Rattle.cr_term.specs.declared.operator.BuiltIn.TheVariants as b
use Rattle.cr_term.specs.declared.operator.Aggregate.{Aggregate as Kind}
use Rattle.cr_term.specs.declared.operator.Aggregate.TheVariants as k
use Rattle.cr_term.specs.declared.expr.Expr.{Expr, out-Expr}
use Rattle.cr_term.specs.declared.expr.Expr.TheOpen.{Expr-F, When-F, Literal, Param, Column, Shown, Unary, Arithmetic, Join, Like, Logic, Compare, Collate, Cast, In, Between, Case, BuiltIn, Host, Aggregate, SiteId, DbVersion}
use Rattle.cr_term.specs.declared.expr.Expr.TheFolds.{fold-Expr}

abbrev pub same_value : Value → Value → Bool
same_value v w = is_eq (value_cmp v w)

abbrev pub same_bool : Bool → Bool → Bool
same_bool true b = b
same_bool false true = false
same_bool false false = true

-- operators by number
abbrev pub sign_number : Sign → ℕ
sign_number u.Not = 0
sign_number u.Plus = 1
sign_number u.Minus = 2
sign_number u.IsNull = 3
sign_number u.NotNull = 4

abbrev pub operator_number : Operator → ℕ
operator_number a.Add = 0
operator_number a.Subtract = 1
operator_number a.Multiply = 2
operator_number a.Divide = 3
operator_number a.Remainder = 4

abbrev pub junction_number : Junction → ℕ
junction_number l.And = 0
junction_number l.Or = 1

abbrev pub comparison_number : Comparison → ℕ
comparison_number c.Less = 0
comparison_number c.AtMost = 1
comparison_number c.Greater = 2
comparison_number c.AtLeast = 3
comparison_number c.Equal = 4
comparison_number c.Unequal = 5
comparison_number c.Is = 6
comparison_number c.IsNot = 7

abbrev pub cast_number : CastTo → ℕ
cast_number to.Integer = 0
cast_number to.Text = 1
cast_number to.Blob = 2

-- functions by number; their collations go by their arguments
abbrev pub own_number : Own → ℕ
own_number b.Abs = 0
own_number b.Coalesce = 1
own_number b.Hex = 2
own_number b.IfNull = 3
own_number b.Length = 4
own_number b.Lower = 5
own_number (b.Max n) = 6
own_number (b.Min n) = 7
own_number (b.NullIf n) = 8
own_number b.TypeOf = 9
own_number b.Upper = 10

abbrev pub same_kind : Kind → Kind → Bool
same_kind k.CountAll k.CountAll = true
same_kind k.Count k.Count = true
same_kind (k.Max m) (k.Max n) = true
same_kind (k.Min m) (k.Min n) = true
same_kind k.Sum k.Sum = true
same_kind (k.Host m) (k.Host n) = bytes_eq m n
same_kind _ _ = false

-- tests of parts
abbrev pub Test : Type 0
Test = Expr → Bool

pub record ArmTest : Type 0 where
  pub when : Test
  pub gives : Test

abbrev pub Layer : Type 0
Layer = Expr-F Expr (When-F Expr (Unit {0}))

abbrev pub ArmLayer : Type 0
ArmLayer = When-F Expr (Unit {0})

abbrev pub same_all : List Test → List Expr → Bool
same_all [] [] = true
same_all (t ∷ ts) (x ∷ xs) = t x && same_all ts xs
same_all _ _ = false

abbrev pub same_arms : List ArmTest → List ArmLayer → Bool
same_arms [] [] = true
same_arms (t ∷ ts) (w ∷ ws) = t.when w.when && t.gives w.then && same_arms ts ws
same_arms _ _ = false

abbrev pub same_if_any : Option Test → Option Expr → Bool
same_if_any None None = true
same_if_any (Some t) (Some x) = t x
same_if_any _ _ = false

-- what decides how operands meet and which collation a function takes stands in the parts, so it isn't compared
abbrev pub same_layer : Expr-F Test ArmTest → Layer → Bool
same_layer (Literal v) (Literal w) = same_value v w
same_layer (Param m) (Param n) = m == n
same_layer (Column x) (Column y) = (x.source == y.source) && (x.place == y.place) && (x.at == y.at)
same_layer (Shown m t) (Shown n x) = t x
same_layer (Unary op t) (Unary op' x) = (sign_number op == sign_number op') && t x
same_layer (Arithmetic op s t) (Arithmetic op' x y) = (operator_number op == operator_number op') && s x && t y
same_layer (Join s t) (Join x y) = s x && t y
same_layer (Like m s t) (Like n x y) = same_bool m n && s x && t y
same_layer (Logic op s t) (Logic op' x y) = (junction_number op == junction_number op') && s x && t y
same_layer (Compare op m s t) (Compare op' m' x y) = (comparison_number op == comparison_number op') && s x && t y
same_layer (Collate t n) (Collate x n') = t x && bytes_eq n n'
same_layer (Cast to t) (Cast to' x) = (cast_number to == cast_number to') && t x
same_layer (In n m t ts) (In n' m' x xs) = same_bool n n' && t x && same_all ts xs
same_layer (Between n m l t low high) (Between n' m' l' x low' high') = same_bool n n' && t x && low low' && high high'
same_layer (Case t arms u) (Case x arms' y) = same_if_any t x && same_arms arms arms' && same_if_any u y
same_layer (BuiltIn f ts) (BuiltIn g xs) = (own_number f == own_number g) && same_all ts xs
same_layer (Host f ts) (Host g xs) = bytes_eq f g && same_all ts xs
same_layer (Aggregate f ts) (Aggregate g xs) = same_kind f g && same_all ts xs
same_layer (SiteId b) (SiteId b') = bytes_eq b b'
same_layer (DbVersion m) (DbVersion n) = int_eq m n
same_layer _ _ = false

abbrev pub same_node : Expr-F Test ArmTest → Test
same_node e x = same_layer e (out-Expr x)

abbrev pub arm_test : When-F Test ArmTest → ArmTest
arm_test w = record { when = w.when; gives = w.then }

abbrev pub test : Expr → Test
test = fold-Expr Test ArmTest same_node arm_test

abbrev pub same : Expr → Expr → Bool
same x y = at y (test x)
