-- The value of an expression over a row or a group. Source: SQLite's "SQL Language Expressions".
use Rattle.std.specs.Prelude.{Bool, true, false, not, if◌then◌else◌, ◌-◌, ◌∷◌, [], List, get_or, length, map, Option, Some, None, Ok}
use Rattle.cr_value.specs.declared.value.Value.{Value}
use Rattle.cr_value.specs.declared.value.Value.TheVariants.{Null, Int, Blob}
use Rattle.cr_term.specs.declared.operator.Meeting.{Meeting}
use Rattle.std.specs.Option.{option_map}
use Rattle.cr_term.specs.declared.operator.Logic.{Logic as Junction}
use Rattle.cr_term.specs.declared.operator.Logic.TheVariants as logic
use Rattle.cr_term.specs.declared.operator.Comparison.{Comparison}
use Rattle.cr_term.specs.declared.operator.Comparison.TheVariants as c
use Rattle.cr_term.specs.declared.expr.When.{When}
use Rattle.cr_term.specs.declared.expr.Expr.{Expr, out-Expr, map-Expr}
use Rattle.cr_term.specs.declared.expr.Expr.TheOpen.{Expr-F, When-F, Literal, Param, Column, Shown, Unary, Arithmetic, Join, Like, Logic, Compare, Collate, Cast, In, Between, Case, BuiltIn, Host, Aggregate, SiteId, DbVersion}
use Rattle.cr_term.specs.declared.expr.Expr.TheFolds.{fold-Expr, fold-When}
use Rattle.cr_scalar.specs.Meaning.{Outcome, Meant, and_then, bounded, of_host}
use Rattle.cr_scalar.specs.Numbers.{truth, truth_value, is_true, decides, joins, unary_of, arithmetic_of}
use Rattle.cr_scalar.specs.Compare.{Orders, compared}
use Rattle.cr_scalar.specs.Texts.{join_of, like_of, cast_of}
use Rattle.cr_scalar.specs.Functions.{all_of, call_of}
use Rattle.cr_scalar.specs.Aggregates.{aggregate_of}
use Rattle.cr_expr.specs.Setting.{Setting, over}

-- what an expression means wherever it is evaluated
abbrev pub Meaning : Type 0
Meaning = Setting → Meant

pub record Arm : Type 0 where
  pub meeting : Meeting
  pub when : Meaning
  pub gives : Meaning

-- whether something is true, or the first fault on the way
abbrev pub Judged : Type 0
Judged = Outcome (Option Bool)

-- 1, 0 or NULL
abbrev pub told : Judged → Meant
told j = and_then j (λ t. Ok (truth_value t))

-- under NOT, or not
abbrev pub turned : Bool → Option Bool → Option Bool
turned true t = option_map not t
turned false t = t

-- three-valued logic; the right side is looked at only where the left does not decide
abbrev pub logic_of : Junction → Judged → Judged → Judged
logic_of op left right = and_then left (λ l. if decides op l then Ok l else and_then right (λ r. Ok (joins op l r)))

abbrev pub compared_with : Orders → Comparison → Meeting → Value → Meant → Judged
compared_with order op m v right = and_then right (λ w. Ok (compared order op m v w))

-- `x = w`
abbrev pub equals : Orders → Value → Meeting → Value → Option Bool
equals order v m w = compared order c.Equal m v w

-- `x = a OR x = b OR ..` from left to right, given what is known so far
abbrev pub in_of : (Value → Option Bool) → Option Bool → List Meant → Judged
in_of test so_far [] = Ok so_far
in_of test so_far (m ∷ ms) = if decides logic.Or so_far then Ok so_far else and_then m (λ w. in_of test (joins logic.Or so_far (test w)) ms)

-- `x >= a AND x <= b`, the operand once
abbrev pub between_of : Orders → Meeting → Meeting → Value → Meant → Meant → Judged
between_of order m n v low high = logic_of logic.And (compared_with order c.AtLeast m v low) (compared_with order c.AtMost n v high)

-- the value of an expression, if there is one
abbrev pub if_any : Setting → Option Meaning → Outcome (Option Value)
if_any s None = Ok None
if_any s (Some x) = and_then (x s) (λ v. Ok (Some v))

abbrev pub or_null : Setting → Option Meaning → Meant
or_null s None = Ok Null
or_null s (Some x) = x s

-- whether an arm is taken: its condition is true, or equal to the operand
abbrev pub is_taken : Orders → Option Value → Meeting → Value → Outcome Bool
is_taken order None m w = and_then (truth w) (λ t. Ok (is_true t))
is_taken order (Some v) m w = Ok (is_true (equals order v m w))

-- what the first arm that is taken gives, if one is
abbrev pub taken : Setting → Option Value → List Arm → Outcome (Option Value)
taken s x [] = Ok None
taken s x (a ∷ arms) = and_then (a.when s) (λ w. and_then (is_taken s.host.order x a.meeting w) (λ t. if t then if_any s (Some a.gives) else taken s x arms))

-- the value, or what stands in its place
abbrev pub value_or : Meant → Option Value → Meant
value_or other None = other
value_or other (Some v) = Ok v

-- the values of arguments
abbrev pub each : List Meaning → Setting → List Meant
each args s = map (λ m. m s) args

-- the argument rows of a group, or the first fault, row by row
abbrev pub argument_rows : List Meaning → Setting → Outcome (List (List Value))
argument_rows args s = all_of (map (λ row. all_of (each args (over s row))) s.group)

-- one node, with what its parts mean
abbrev pub layer : Expr-F Meaning Arm → Meaning
layer (Literal v) s = Ok v
layer (Param n) s = Ok (get_or s.params (n - 1) Null)
layer (Column column) s = Ok (get_or s.row column.at Null)
layer (Shown n x) s = Ok (get_or s.shown n Null)
layer (Unary op x) s = and_then (x s) (unary_of op)
layer (Arithmetic op x y) s = and_then (x s) (λ v. and_then (y s) (arithmetic_of op v))
layer (Join x y) s = and_then (x s) (λ v. and_then (y s) (join_of v))
layer (Like n x y) s = and_then (x s) (λ v. and_then (y s) (like_of n v))
layer (Logic op x y) s = told (logic_of op (and_then (x s) truth) (and_then (y s) truth))
layer (Compare op m x y) s = and_then (x s) (λ v. and_then (y s) (λ w. Ok (truth_value (compared s.host.order op m v w))))
layer (Collate x name) s = x s
layer (Cast to x) s = and_then (x s) (cast_of to)
layer (In n m x items) s = and_then (x s) (λ v. and_then (in_of (equals s.host.order v m) (Some false) (each items s)) (λ t. Ok (truth_value (turned n t))))
layer (Between n m l x low high) s = and_then (x s) (λ v. and_then (between_of s.host.order m l v (low s) (high s)) (λ t. Ok (truth_value (turned n t))))
layer (Case x arms other) s = and_then (if_any s x) (λ v. and_then (taken s v arms) (value_or (or_null s other)))
layer (BuiltIn f args) s = call_of s.host.order f (each args s)
layer (Host name args) s = and_then (all_of (each args s)) (λ vs. of_host (s.host.scalar name vs))
layer (Aggregate kind args) s = and_then (argument_rows args s) (aggregate_of s.host.order (λ name. s.host.aggregate name (length args)) kind)
layer (SiteId b) s = Ok (Blob b)
layer (DbVersion n) s = Ok (Int n)

-- no value is over the limit
abbrev pub node : Expr-F Meaning Arm → Meaning
node e s = and_then (layer e s) (bounded s.most)

abbrev pub arm : When-F Meaning Arm → Arm
arm w = record { meeting = w.meeting; when = w.when; gives = w.then }

abbrev pub meaning : Expr → Meaning
meaning = fold-Expr Meaning Arm node arm

abbrev pub arm_of : When → Arm
arm_of = fold-When Meaning Arm node arm

-- the value of an expression, or its fault
abbrev pub eval_of : Setting → Expr → Meant
eval_of s e = meaning e s

-- the value of a node, with what its parts mean; it may be over the limit
abbrev pub of_node : Setting → Expr → Meant
of_node s e = layer (map-Expr Expr (When-F Expr (Unit {0})) Meaning Arm meaning arm_of (out-Expr e)) s
