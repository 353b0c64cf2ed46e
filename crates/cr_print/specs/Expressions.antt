-- Expressions as SQL text. Source: SQLite's "SQL Language Expressions"; the parentheses around each node are this
-- project's own, so that no reader needs to know how operators bind.
use Rattle.std.specs.Prelude.{ℕ, Bool, true, false, List, [], ◌++◌, map, Option, Some, None, codes, if◌then◌else◌}
use Rattle.std.specs.Fmt.{decimal}
use Rattle.cr_value.specs.declared.value.Value.TheVariants.{Int}
use Rattle.cr_tree.specs.declared.expr.Unary.{Unary as Sign}
use Rattle.cr_tree.specs.declared.expr.Unary.TheVariants as u
use Rattle.cr_tree.specs.declared.expr.Binary.{Binary as Operator}
use Rattle.cr_tree.specs.declared.expr.Binary.TheVariants as b
use Rattle.cr_tree.specs.declared.expr.Expr.{Expr}
use Rattle.cr_tree.specs.declared.expr.When.{When}
use Rattle.cr_tree.specs.declared.expr.Expr.TheOpen.{Expr-F, When-F, Literal, Param, Column, Unary, Binary, Collate, In, Between, Call, CountAll, Cast, Case}
use Rattle.cr_tree.specs.declared.expr.Expr.TheFolds.{fold-Expr, fold-When}
use Rattle.cr_print.specs.Pieces.{name, value, in_row, listed, spaced}

-- how an expression is written, and whether it is an integer as it stands
pub record Printed : Type 0 where
  pub text : List ℕ
  pub is_integer : Bool

-- an operator of two operands, with its blanks
abbrev pub operator : Operator → List ℕ
operator b.Or = codes " OR "
operator b.And = codes " AND "
operator b.Equal = codes " = "
operator b.Unequal = codes " <> "
operator b.Is = codes " IS "
operator b.IsNot = codes " IS NOT "
operator b.Like = codes " LIKE "
operator b.NotLike = codes " NOT LIKE "
operator b.Less = codes " < "
operator b.AtMost = codes " <= "
operator b.Greater = codes " > "
operator b.AtLeast = codes " >= "
operator b.Add = codes " + "
operator b.Subtract = codes " - "
operator b.Multiply = codes " * "
operator b.Divide = codes " / "
operator b.Remainder = codes " % "
operator b.Join = codes " || "

-- behind a sign an integer has parentheses of its own, since a minus before digits is one literal with them
abbrev pub behind_sign : Printed → List ℕ
behind_sign x = if x.is_integer then codes "(" ++ x.text ++ codes ")" else x.text

abbrev pub unary : Sign → Printed → List ℕ
unary u.Not x = codes "(NOT " ++ x.text ++ codes ")"
unary u.Plus x = codes "(+" ++ behind_sign x ++ codes ")"
unary u.Minus x = codes "(-" ++ behind_sign x ++ codes ")"
unary u.IsNull x = codes "(" ++ x.text ++ codes " ISNULL)"
unary u.NotNull x = codes "(" ++ x.text ++ codes " NOTNULL)"

abbrev pub in_word : Bool → List ℕ
in_word true = codes " NOT IN ("
in_word false = codes " IN ("

abbrev pub between_word : Bool → List ℕ
between_word true = codes " NOT BETWEEN "
between_word false = codes " BETWEEN "

abbrev pub column : Option (List ℕ) → List ℕ → List ℕ
column None c = name c
column (Some s) c = name s ++ codes "." ++ name c

-- a text and an expression, if there is one
abbrev pub if_any : List ℕ → Option Printed → List ℕ
if_any before None = []
if_any before (Some x) = before ++ x.text

-- one node, with how its parts are written
abbrev pub node_text : Expr-F Printed (List ℕ) → List ℕ
node_text (Literal v) = value v
node_text (Param n) = codes "?" ++ decimal n
node_text (Column s c) = column s c
node_text (Unary op x) = unary op x
node_text (Binary op x y) = codes "(" ++ x.text ++ operator op ++ y.text ++ codes ")"
node_text (Collate x c) = codes "(" ++ x.text ++ codes " COLLATE " ++ name c ++ codes ")"
node_text (In n x items) = codes "(" ++ x.text ++ in_word n ++ listed (map (λ i. i.text) items) ++ codes "))"
node_text (Between n x a b) = codes "(" ++ x.text ++ between_word n ++ a.text ++ codes " AND " ++ b.text ++ codes ")"
node_text (Call f args) = name f ++ codes "(" ++ listed (map (λ a. a.text) args) ++ codes ")"
node_text CountAll = codes "\"count\"(*)"
node_text (Cast x words) = codes "CAST(" ++ x.text ++ codes " AS " ++ spaced (map name words) ++ codes ")"
node_text (Case x arms y) = codes "CASE" ++ if_any (codes " ") x ++ in_row [] [] arms ++ if_any (codes " ELSE ") y ++ codes " END"

abbrev pub is_integer_node : Expr-F Printed (List ℕ) → Bool
is_integer_node (Literal (Int n)) = true
is_integer_node _ = false

abbrev pub node : Expr-F Printed (List ℕ) → Printed
node x = record { text = node_text x; is_integer = is_integer_node x }

-- an arm of a CASE
abbrev pub arm_text : When-F Printed (List ℕ) → List ℕ
arm_text w = codes " WHEN " ++ w.when.text ++ codes " THEN " ++ w.then.text

abbrev pub printed : Expr → Printed
printed = fold-Expr Printed (List ℕ) node arm_text

-- how an expression is written
abbrev pub expr : Expr → List ℕ
expr e = (printed e).text

abbrev pub arm : When → List ℕ
arm = fold-When Printed (List ℕ) node arm_text
