-- What the parts of an expression have, from left to right.
use Rattle.std.specs.Prelude.{List, [], ◌∷◌, ◌++◌, Option, Some, None}
use Rattle.std.specs.List.{flat_map}
use Rattle.cr_term.specs.declared.operator.Aggregate.{Aggregate as Kind}
use Rattle.cr_term.specs.declared.expr.Column.{Column as Field}
use Rattle.cr_term.specs.declared.expr.Expr.{Expr}
use Rattle.cr_term.specs.declared.expr.Expr.TheOpen.{Expr-F, When-F, Literal, Param, Column, Shown, Unary, Arithmetic, Join, Like, Logic, Compare, Collate, Cast, In, Between, Case, BuiltIn, Host, Aggregate, SiteId, DbVersion}
use Rattle.cr_term.specs.declared.expr.Expr.TheFolds.{fold-Expr}

abbrev pub all : {A : Type 0} → List (List A) → List A
all = flat_map (λ xs. xs)

abbrev pub if_any : {A : Type 0} → Option (List A) → List A
if_any None = []
if_any (Some xs) = xs

-- what all parts of one node have
abbrev pub parts : {A : Type 0} → Expr-F (List A) (List A) → List A
parts (Literal v) = []
parts (Param n) = []
parts (Column c) = []
parts (Shown n x) = x
parts (Unary op x) = x
parts (Arithmetic op x y) = x ++ y
parts (Join x y) = x ++ y
parts (Like n x y) = x ++ y
parts (Logic op x y) = x ++ y
parts (Compare op m x y) = x ++ y
parts (Collate x name) = x
parts (Cast to x) = x
parts (In n m x items) = x ++ all items
parts (Between n m l x low high) = x ++ low ++ high
parts (Case x arms other) = if_any x ++ all arms ++ if_any other
parts (BuiltIn f args) = all args
parts (Host name args) = all args
parts (Aggregate kind args) = all args
parts (SiteId b) = []
parts (DbVersion n) = []

abbrev pub arm : {A : Type 0} → When-F (List A) (List A) → List A
arm w = w.when ++ w.then

-- ---- columns

abbrev pub columns_layer : Expr-F (List Field) (List Field) → List Field
columns_layer (Column c) = c ∷ []
columns_layer e = parts e

-- the columns that stand in an expression
abbrev pub columns : Expr → List Field
columns = fold-Expr (List Field) (List Field) columns_layer arm

-- ---- aggregates

abbrev pub aggregates_layer : Expr-F (List Kind) (List Kind) → List Kind
aggregates_layer (Aggregate kind args) = kind ∷ all args
aggregates_layer e = parts e

-- the aggregates that stand in an expression
abbrev pub aggregates : Expr → List Kind
aggregates = fold-Expr (List Kind) (List Kind) aggregates_layer arm
