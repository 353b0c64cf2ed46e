-- What an operand brings to a comparison. Source: "Datatypes In SQLite", sections 3.2, 4.2 and 7.1; that a function with
-- several arguments takes the collation of the first that has one is this project's own.
use Rattle.std.specs.Prelude.{ℕ, List, [], ◌∷◌, map, codes, Option, Some, None}
use Rattle.std.specs.Option.{option_or, unwrap_or}
use Rattle.cr_value.specs.declared.affinity.Affinity.{Affinity}
use Rattle.cr_value.specs.declared.affinity.Affinity.TheVariants as affinity
use Rattle.cr_value.specs.declared.cast.CastTo.{CastTo}
use Rattle.cr_value.specs.declared.cast.CastTo.TheVariants as to
use Rattle.cr_term.specs.declared.operator.Adjusted.{Adjusted}
use Rattle.cr_term.specs.declared.operator.Adjusted.TheVariants.{Neither, Left, Right}
use Rattle.cr_term.specs.declared.operator.Meeting.{Meeting}
use Rattle.cr_term.specs.declared.operator.Unary.TheVariants as unary
use Rattle.cr_term.specs.declared.operator.Comparison.{Comparison}
use Rattle.cr_term.specs.declared.expr.Expr.{Expr}
use Rattle.cr_term.specs.Nodes as e
use Rattle.cr_term.specs.declared.expr.Expr.TheOpen.{Expr-F, When-F, Literal, Param, Column, Shown, Unary, Arithmetic, Join, Like, Logic, Compare, Collate, Cast, In, Between, Case, BuiltIn, Host, Aggregate, SiteId, DbVersion}
use Rattle.cr_term.specs.declared.expr.Expr.TheFolds.{fold-Expr}

abbrev pub Name : Type 0
Name = List ℕ

-- ---- affinity

abbrev pub of_cast : CastTo → Affinity
of_cast to.Integer = affinity.Integer
of_cast to.Text = affinity.Text
of_cast to.Blob = affinity.Blob

abbrev pub no_arm : {A : Type 0} → When-F (Option A) (Option A) → Option A
no_arm w = None

abbrev pub affinity_layer : Expr-F (Option Affinity) (Option Affinity) → Option Affinity
affinity_layer (Column c) = Some c.affinity
affinity_layer (Cast to x) = Some (of_cast to)
affinity_layer (Collate x name) = x
affinity_layer (Shown n x) = x
affinity_layer _ = None

-- the affinity of an operand, if it has one
abbrev pub affinity_of : Expr → Option Affinity
affinity_of = fold-Expr (Option Affinity) (Option Affinity) affinity_layer no_arm

-- ---- collation

abbrev pub first_of : {A : Type 0} → List (Option A) → Option A
first_of [] = None
first_of (a ∷ rest) = option_or a (first_of rest)

abbrev pub flat : {A : Type 0} → Option (Option A) → Option A
flat None = None
flat (Some a) = a

abbrev pub explicit_layer : Expr-F (Option Name) (Option Name) → Option Name
explicit_layer (Literal v) = None
explicit_layer (Param n) = None
explicit_layer (Column c) = None
explicit_layer (Shown n x) = x
explicit_layer (Unary op x) = x
explicit_layer (Arithmetic op x y) = option_or x y
explicit_layer (Join x y) = option_or x y
explicit_layer (Like n x y) = option_or x y
explicit_layer (Logic op x y) = option_or x y
explicit_layer (Compare op m x y) = option_or x y
explicit_layer (Collate x name) = Some name
explicit_layer (Cast to x) = x
explicit_layer (In n m x items) = option_or x (first_of items)
explicit_layer (Between n m l x low high) = option_or x (option_or low high)
explicit_layer (Case x arms other) = option_or (flat x) (option_or (first_of arms) (flat other))
explicit_layer (BuiltIn f args) = first_of args
explicit_layer (Host name args) = first_of args
explicit_layer (Aggregate kind args) = first_of args
explicit_layer (SiteId b) = None
explicit_layer (DbVersion n) = None

abbrev pub explicit_arm : When-F (Option Name) (Option Name) → Option Name
explicit_arm w = option_or w.when w.then

-- the leftmost COLLATE in an operand; of those around one another the outer one
abbrev pub explicit_collation : Expr → Option Name
explicit_collation = fold-Expr (Option Name) (Option Name) explicit_layer explicit_arm

abbrev pub column_layer : Expr-F (Option Name) (Option Name) → Option Name
column_layer (Column c) = Some c.collation
column_layer (Cast to x) = x
column_layer (Collate x name) = x
column_layer (Unary unary.Plus x) = x
column_layer (Shown n x) = x
column_layer _ = None

-- the collation of a column, also one under `+`, CAST and COLLATE
abbrev pub column_collation : Expr → Option Name
column_collation = fold-Expr (Option Name) (Option Name) column_layer no_arm

abbrev pub binary : Name
binary = codes "binary"

-- an explicit one, the left one first; else a column's, the left one first; else BINARY
abbrev pub collation_of : List Expr → Name
collation_of es = unwrap_or (option_or (first_of (map explicit_collation es)) (first_of (map column_collation es))) binary

-- the collation of one operand, if it has one
abbrev pub own_collation : Expr → Option Name
own_collation x = option_or (explicit_collation x) (column_collation x)

-- that of the first argument that has one
abbrev pub first_collation : List Expr → Name
first_collation args = unwrap_or (first_of (map own_collation args)) binary

-- ---- how two operands meet

abbrev pub adjusted : Option Affinity → Option Affinity → Adjusted
adjusted (Some affinity.Integer) (Some affinity.Integer) = Neither
adjusted (Some affinity.Integer) (Some affinity.Numeric) = Neither
adjusted (Some affinity.Integer) _ = Right affinity.Numeric
adjusted (Some affinity.Numeric) (Some affinity.Integer) = Neither
adjusted (Some affinity.Numeric) (Some affinity.Numeric) = Neither
adjusted (Some affinity.Numeric) _ = Right affinity.Numeric
adjusted (Some affinity.Text) (Some affinity.Integer) = Left affinity.Numeric
adjusted (Some affinity.Text) (Some affinity.Numeric) = Left affinity.Numeric
adjusted (Some affinity.Text) None = Right affinity.Text
adjusted (Some affinity.Text) _ = Neither
adjusted (Some affinity.Blob) (Some affinity.Integer) = Left affinity.Numeric
adjusted (Some affinity.Blob) (Some affinity.Numeric) = Left affinity.Numeric
adjusted (Some affinity.Blob) _ = Neither
adjusted None (Some affinity.Integer) = Left affinity.Numeric
adjusted None (Some affinity.Numeric) = Left affinity.Numeric
adjusted None (Some affinity.Text) = Left affinity.Text
adjusted None _ = Neither

abbrev pub meeting : Expr → Expr → Meeting
meeting x y = record { adjusted = adjusted (affinity_of x) (affinity_of y); collation = collation_of (x ∷ y ∷ []) }

-- an item of IN has no affinity, and the collation is the operand's
abbrev pub meeting_item : Expr → Meeting
meeting_item x = record { adjusted = adjusted (affinity_of x) None; collation = collation_of (x ∷ []) }

-- where there is no operand to meet
abbrev pub no_meeting : Meeting
no_meeting = record { adjusted = Neither; collation = binary }

-- ---- nodes, with how their parts meet

abbrev pub comparison : Comparison → Expr → Expr → Expr
comparison op x y = e.Compare op (meeting x y) x y
