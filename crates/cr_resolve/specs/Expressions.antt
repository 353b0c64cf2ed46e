-- What an expression is once its names are resolved, one node a line. Source: SQLite's "SQL Language Expressions".
use Rattle.std.specs.Prelude.{ℕ, Bool, true, false, not, ◌&&◌, ◌==◌, List, [], ◌∷◌, ◌++◌, length, map, codes, Option, Some, None, if◌then◌else◌}
use Rattle.std.specs.Option.{option_map, option_and_then}
use Rattle.std.specs.Str.{bytes_eq}
use Rattle.cr_value.specs.declared.affinity.Affinity.{Affinity}
use Rattle.cr_value.specs.declared.affinity.Affinity.TheVariants as affinity
use Rattle.cr_value.specs.Affinity.{affinity_of_type}
use Rattle.cr_value.specs.declared.cast.CastTo.{CastTo}
use Rattle.cr_value.specs.declared.cast.CastTo.TheVariants as to
use Rattle.cr_value.specs.declared.value.Value.TheVariants.{Null}
use Rattle.cr_host.specs.declared.function.Definition.{Definition}
use Rattle.cr_host.specs.declared.function.Definition.TheVariants.{Scalar, Aggregate}
use Rattle.cr_host.specs.BuiltIn.{is_built_in_scalar, is_built_in_aggregate}
use Rattle.cr_tree.specs.declared.expr.Unary.{Unary as Sign}
use Rattle.cr_tree.specs.declared.expr.Unary.TheVariants as sign
use Rattle.cr_tree.specs.declared.expr.Binary.{Binary as Operator}
use Rattle.cr_tree.specs.declared.expr.Binary.TheVariants as op
use Rattle.cr_tree.specs.declared.expr.Expr.{Expr as Tree}
use Rattle.cr_tree.specs.declared.expr.Expr.TheOpen.{Expr-F, When-F, Literal, Param, Column, Unary, Binary, Collate, In, Between, Call, CountAll, Cast, Case}
use Rattle.cr_tree.specs.declared.expr.Expr.TheFolds.{fold-Expr}
use Rattle.cr_term.specs.declared.operator.Unary.TheVariants as u
use Rattle.cr_term.specs.declared.operator.Unary.{Unary as UnaryOf}
use Rattle.cr_term.specs.declared.operator.Arithmetic.TheVariants as a
use Rattle.cr_term.specs.declared.operator.Logic.TheVariants as l
use Rattle.cr_term.specs.declared.operator.Comparison.{Comparison}
use Rattle.cr_term.specs.declared.operator.Comparison.TheVariants as c
use Rattle.cr_term.specs.declared.operator.BuiltIn.{BuiltIn}
use Rattle.cr_term.specs.declared.operator.BuiltIn.TheVariants as b
use Rattle.cr_term.specs.declared.operator.Aggregate.{Aggregate as Kind}
use Rattle.cr_term.specs.declared.operator.Aggregate.TheVariants as k
use Rattle.cr_term.specs.declared.expr.Expr.{Expr}
use Rattle.cr_term.specs.Nodes as e
use Rattle.cr_term.specs.declared.expr.When.{When}
use Rattle.cr_term.specs.At.{at}
use Rattle.cr_term.specs.Operands.{meeting, meeting_item, no_meeting, comparison, collation_of, first_collation}
use Rattle.cr_questions.specs.Questions.{Name}
use Rattle.cr_resolve.specs.declared.refusal.Refusal.TheVariants.{NoSuchFunction, WrongArity}
use Rattle.cr_resolve.specs.Reading.{Read, fine, refused, with, with_both, also, also_misplaced, each, if_any}
use Rattle.cr_resolve.specs.Known.{Known, is_function, is_site_id, is_db_version, collation, collations}
use Rattle.cr_resolve.specs.Scope.{Source, column}
pub use Rattle.cr_resolve.specs.declared.case.Pair.{Pair}

-- where an expression stands: the columns in sight, and whether an aggregate may stand there
pub record Place : Type 0 where
  pub sources : List Source
  pub aggregates : Bool

-- an expression is read once it is known where it stands
abbrev pub Reader : Type 0
Reader = Place → Read Expr

pub record Arm : Type 0 where
  pub when : Reader
  pub gives : Reader

-- ---- types

-- words with single spaces between them
abbrev pub spaced_after : List Name → List ℕ
spaced_after [] = []
spaced_after (w ∷ ws) = 32 ∷ w ++ spaced_after ws

abbrev pub spaced : List Name → List ℕ
spaced [] = []
spaced (w ∷ ws) = w ++ spaced_after ws

abbrev pub cast_of_affinity : Affinity → Option CastTo
cast_of_affinity affinity.Integer = Some to.Integer
cast_of_affinity affinity.Text = Some to.Text
cast_of_affinity affinity.Blob = Some to.Blob
cast_of_affinity affinity.Numeric = None

-- what a CAST is to; none where its type is out of profile, which is told before names are
abbrev pub cast_target : List Name → Option CastTo
cast_target words = option_and_then cast_of_affinity (affinity_of_type (spaced words))

abbrev pub cast_node : Option CastTo → Expr → Expr
cast_node (Some to) x = e.Cast to x
cast_node None x = x

-- ---- operators

abbrev pub sign_of : Sign → UnaryOf
sign_of sign.Not = u.Not
sign_of sign.Plus = u.Plus
sign_of sign.Minus = u.Minus
sign_of sign.IsNull = u.IsNull
sign_of sign.NotNull = u.NotNull

-- a comparison takes a collation from its operands, which there has to be
abbrev pub compared : Known → Comparison → Read Expr → Read Expr → Read Expr
compared known op x y = also (λ z. collation known (collation_of (x.made ∷ y.made ∷ []))) (with_both (comparison op) x y)

abbrev pub binary : Known → Operator → Read Expr → Read Expr → Read Expr
binary known op.Or x y = with_both (e.Logic l.Or) x y
binary known op.And x y = with_both (e.Logic l.And) x y
binary known op.Equal x y = compared known c.Equal x y
binary known op.Unequal x y = compared known c.Unequal x y
binary known op.Is x y = compared known c.Is x y
binary known op.IsNot x y = compared known c.IsNot x y
binary known op.Like x y = with_both (e.Like false) x y
binary known op.NotLike x y = with_both (e.Like true) x y
binary known op.Less x y = compared known c.Less x y
binary known op.AtMost x y = compared known c.AtMost x y
binary known op.Greater x y = compared known c.Greater x y
binary known op.AtLeast x y = compared known c.AtLeast x y
binary known op.Add x y = with_both (e.Arithmetic a.Add) x y
binary known op.Subtract x y = with_both (e.Arithmetic a.Subtract) x y
binary known op.Multiply x y = with_both (e.Arithmetic a.Multiply) x y
binary known op.Divide x y = with_both (e.Arithmetic a.Divide) x y
binary known op.Remainder x y = with_both (e.Arithmetic a.Remainder) x y
binary known op.Join x y = with_both e.Join x y

-- ---- IN, BETWEEN, CASE

abbrev pub in_node : Bool → Expr → List Expr → Expr
in_node negated x items = e.In negated (meeting_item x) x items

abbrev pub between_node : Bool → Expr → Expr → Expr → Expr
between_node negated x low high = e.Between negated (meeting x low) (meeting x high) x low high

abbrev pub in_of : Known → Bool → Read Expr → Read (List Expr) → Read Expr
in_of known negated x items = also (λ z. collation known (collation_of (x.made ∷ []))) (with_both (in_node negated) x items)

abbrev pub between_of : Known → Bool → Read Expr → Read Expr → Read Expr → Read Expr
between_of known negated x low high =
    also (λ z. collation known (collation_of (x.made ∷ low.made ∷ [])) ++ collation known (collation_of (x.made ∷ high.made ∷ [])))
    (with_both (λ f h. f h) (with_both (between_node negated) x low) high)

abbrev pub arm_node : Option Expr → Pair → When
arm_node None p = record { meeting = no_meeting; when = p.when; then = p.gives }
arm_node (Some x) p = record { meeting = meeting x p.when; when = p.when; then = p.gives }

abbrev pub case_node : Option Expr → List Pair → Option Expr → Expr
case_node x arms other = e.Case x (map (arm_node x) arms) other

abbrev pub arm_collations : Option Expr → List Pair → List Name
arm_collations None arms = []
arm_collations (Some x) arms = map (λ p. collation_of (x ∷ p.when ∷ [])) arms

abbrev pub case_of : Known → Read (Option Expr) → Read (List Pair) → Read (Option Expr) → Read Expr
case_of known x arms other =
    also (λ z. collations known (arm_collations x.made arms.made)) (with_both (λ f y. f y) (with_both case_node x arms) other)

abbrev pub pair_of : Place → Arm → Read Pair
pair_of p w = with_both (λ x y. record { when = x; gives = y }) (w.when p) (w.gives p)

-- ---- calls

-- the engine's own function of that name, with the collation that it takes from its arguments
abbrev pub built_in : Name → List Expr → BuiltIn
built_in name args =
    if bytes_eq name (codes "abs") then b.Abs
    else if bytes_eq name (codes "coalesce") then b.Coalesce
    else if bytes_eq name (codes "hex") then b.Hex
    else if bytes_eq name (codes "ifnull") then b.IfNull
    else if bytes_eq name (codes "length") then b.Length
    else if bytes_eq name (codes "lower") then b.Lower
    else if bytes_eq name (codes "max") then b.Max (first_collation args)
    else if bytes_eq name (codes "min") then b.Min (first_collation args)
    else if bytes_eq name (codes "nullif") then b.NullIf (first_collation args)
    else if bytes_eq name (codes "typeof") then b.TypeOf
    else b.Upper

-- the collation of a function that compares
abbrev pub own_collations : BuiltIn → List Name
own_collations (b.Max n) = n ∷ []
own_collations (b.Min n) = n ∷ []
own_collations (b.NullIf n) = n ∷ []
own_collations _ = []

abbrev pub built_in_node : Name → List Expr → Expr
built_in_node name args = e.BuiltIn (built_in name args) args

-- a scalar function of the engine or of the host
abbrev pub own_call : Known → Name → Read (List Expr) → Read Expr
own_call known name args = also (λ z. collations known (own_collations (built_in name args.made))) (with (built_in_node name) args)

abbrev pub built_in_kind : Name → List Expr → Kind
built_in_kind name args =
    if bytes_eq name (codes "count") then k.Count
    else if bytes_eq name (codes "max") then k.Max (collation_of args)
    else if bytes_eq name (codes "min") then k.Min (collation_of args)
    else k.Sum

-- an aggregate, with no aggregate among its arguments, takes a collation from them, which there has to be
abbrev pub aggregate_call : Known → (List Expr → Kind) → Place → List Reader → Read Expr
aggregate_call known kind p args =
    let inside = each (map (λ r. r (record p { aggregates = false })) args) in
    also_misplaced (not p.aggregates) (also (λ z. collation known (collation_of inside.made)) (with (λ es. e.Aggregate (kind es) es) inside))

-- where the host has no function of that name and count
abbrev pub engine_call : Known → Name → ℕ → Place → List Reader → Read Expr
engine_call known name count p args =
    if is_built_in_scalar name count then own_call known name (each (map (λ r. r p) args))
    else if is_built_in_aggregate name count then aggregate_call known (built_in_kind name) p args
    else if is_site_id name && (count == 0) then fine (e.SiteId known.catalog.site)
    else if is_db_version name && (count == 0) then fine (e.DbVersion known.catalog.db_version)
    else if is_function known name then refused (WrongArity name) (e.Literal Null)
    else refused (NoSuchFunction name) (e.Literal Null)

abbrev pub call_by : Known → Option Definition → Name → ℕ → Place → List Reader → Read Expr
call_by known (Some (Scalar n)) name count p args = with (e.Host name) (each (map (λ r. r p) args))
call_by known (Some (Aggregate n)) name count p args = aggregate_call known (λ es. k.Host name) p args
call_by known None name count p args = engine_call known name count p args

abbrev pub call : Known → Name → Place → List Reader → Read Expr
call known name p args = call_by known (known.function_of name (length args)) name (length args) p args

-- ---- nodes

abbrev pub node : Known → Expr-F Reader Arm → Reader
node known (Literal v) p = fine (e.Literal v)
node known (Param n) p = fine (e.Param n)
node known (Column q name) p = column p.sources q name
node known (Unary op x) p = with (e.Unary (sign_of op)) (x p)
node known (Binary op x y) p = binary known op (x p) (y p)
node known (Collate x name) p = also (λ z. collation known name) (with (λ y. e.Collate y name) (x p))
node known (In negated x items) p = in_of known negated (x p) (each (map (λ r. r p) items))
node known (Between negated x low high) p = between_of known negated (x p) (low p) (high p)
node known (Call name args) p = call known name p args
node known CountAll p = also_misplaced (not p.aggregates) (fine (e.Aggregate k.CountAll []))
node known (Cast x words) p = with (cast_node (cast_target words)) (x p)
node known (Case x arms other) p = case_of known (if_any (option_map (λ r. r p) x)) (each (map (pair_of p) arms)) (if_any (option_map (λ r. r p) other))

abbrev pub arm : When-F Reader Arm → Arm
arm w = record { when = w.when; gives = w.then }

abbrev pub reader : Known → Tree → Reader
reader known = fold-Expr Reader Arm (node known) arm

-- an expression, with the sources in sight, where aggregates may or may not stand
abbrev pub expr : Known → List Source → Bool → Tree → Read Expr
expr known sources aggregates t = at (record { sources = sources; aggregates = aggregates }) (reader known t)
