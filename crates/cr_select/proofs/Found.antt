-- Whether an aggregate stands in an expression, node by node.
use Rattle.std.proofs.Common.{◌≡◌, ◌∙◌, Bool, ◌||◌, List, [], ◌∷◌, ◌++◌, length, refl, sym, ap}
use Rattle.std.proofs.Math.Dec.{leb-suc-zero}
use Rattle.std.proofs.lemmas.List.{append-nil}
use Rattle.cr_term.specs.declared.operator.Aggregate.{Aggregate as Kind}
use Rattle.cr_term.specs.declared.expr.When.{When}
use Rattle.cr_term.specs.declared.expr.Expr.{Expr, out-Expr, map-Expr}
use Rattle.cr_term.specs.declared.expr.Expr.TheOpen.{Expr-F, When-F, Literal, Param, Column, Shown, Unary, Arithmetic, Join, Like, Logic, Compare, Collate, Cast, In, Between, Case, BuiltIn, Host, Aggregate, SiteId, DbVersion}
use Rattle.cr_term.specs.declared.expr.Expr.TheFolds.{fold-When, fold_out-Expr}
use Rattle.cr_term.specs.Parts.{parts, arm, aggregates, aggregates_layer}
use Rattle.cr_questions.specs.Asked.{parts_of}
use Rattle.cr_resolve.specs.Queries.{has_aggregate_in}
use Rattle.cr_select.specs.Aggregates.{any, or_any, own_kinds}
use Rattle.cr_select.proofs.Each.{or_assoc}

any_append : (xs ys : List Kind) → any (xs ++ ys) ≡ (any xs || any ys)
any_append [] ys = refl
any_append (x ∷ xs) ys = rw (leb-suc-zero (length (xs ++ ys)), leb-suc-zero (length xs)) refl

pub or_more : (found : Bool) (xs ys : List Kind) → or_any (or_any found xs) ys ≡ or_any found (xs ++ ys)
unfolding or_any
or_more found xs ys = or_assoc found (any xs) (any ys) ∙ ap (λ b. found || b) (sym (any_append xs ys))

module _ (f : Expr → List Kind) (g : When → List Kind) where
  abbrev over : Expr-F Expr (When-F Expr (Unit {0})) → Expr-F (List Kind) (List Kind)
  over y = map-Expr Expr (When-F Expr (Unit {0})) (List Kind) (List Kind) f g y

  layer_aggregates : (y : Expr-F Expr (When-F Expr (Unit {0}))) → aggregates_layer (over y) ≡ own_kinds y ++ parts (over y)
  layer_aggregates (Literal v) = refl
  layer_aggregates (Param n) = refl
  layer_aggregates (Column c) = refl
  layer_aggregates (Shown n x) = refl
  layer_aggregates (Unary op x) = refl
  layer_aggregates (Arithmetic op x y) = refl
  layer_aggregates (Join x y) = refl
  layer_aggregates (Like n x y) = refl
  layer_aggregates (Logic op x y) = refl
  layer_aggregates (Compare op m x y) = refl
  layer_aggregates (Collate x name) = refl
  layer_aggregates (Cast to x) = refl
  layer_aggregates (In n m x items) = refl
  layer_aggregates (Between n m l x low high) = refl
  layer_aggregates (Case x arms other) = refl
  layer_aggregates (BuiltIn h args) = refl
  layer_aggregates (Host name args) = refl
  layer_aggregates (Aggregate kind args) = refl
  layer_aggregates (SiteId b) = refl
  layer_aggregates (DbVersion n) = refl

aggregates_node : (e : Expr) → aggregates e ≡ own_kinds (out-Expr e) ++ parts_of aggregates_layer e
aggregates_node e = fold_out-Expr (List Kind) (List Kind) aggregates_layer arm e ∙ layer_aggregates aggregates (fold-When (List Kind) (List Kind) aggregates_layer arm) (out-Expr e)

pub node_any : (e : Expr) → any (aggregates e) ≡ (any (own_kinds (out-Expr e)) || any (parts_of aggregates_layer e))
node_any e = ap any (aggregates_node e) ∙ any_append (own_kinds (out-Expr e)) (parts_of aggregates_layer e)

pub only_one : (e : Expr) → has_aggregate_in (e ∷ []) ≡ any (aggregates e)
only_one e = ap any (append-nil (aggregates e))
