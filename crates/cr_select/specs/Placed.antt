-- Expressions within groups, as they are made: a fold's result of three parts in two words, which are kept closed.
use Rattle.std.specs.Prelude.{Bool, true, ◌||◌, List, [], ◌∷◌, ◌++◌, map}
use Rattle.std.specs.List.{list_any}
use Rattle.cr_term.specs.declared.expr.When.{When}
use Rattle.cr_term.specs.declared.expr.Expr.{Expr, out-Expr, map-Expr}
use Rattle.cr_term.specs.declared.expr.Expr.TheOpen.{Expr-F, When-F, Column, Aggregate}
use Rattle.cr_term.specs.declared.query.GroupTerm.{GroupTerm}
use Rattle.cr_term.specs.Parts.{parts}
use Rattle.cr_term.specs.Build.{built}
use Rattle.cr_resolve.specs.Queries.{placed}

abbrev pub exprs_of : List GroupTerm → List Expr
exprs_of groups = map (λ g. g.expr) groups

-- an expression with the terms put in
unfoldable pub made : List Expr → Expr → Expr
made terms x = (placed terms x).made

abbrev pub arm_made : List Expr → When → When
arm_made terms w = record { meeting = w.meeting; when = made terms w.when; then = made terms w.then }

abbrev pub layer_made : List Expr → Expr-F Expr (When-F Expr (Unit {0})) → Expr
layer_made terms y = built (map-Expr Expr (When-F Expr (Unit {0})) Expr When (made terms) (arm_made terms) y)

-- an expression that is no term: an aggregate has no terms put in
abbrev pub layer_placed : List Expr → Expr-F Expr (When-F Expr (Unit {0})) → Expr
layer_placed terms (Aggregate kind args) = layer_made [] (Aggregate kind args)
layer_placed terms y = layer_made terms y

abbrev pub parts_placed : List Expr → Expr → Expr
parts_placed terms x = layer_placed terms (out-Expr x)

-- whether a column stands bare, as a list
unfoldable pub bares : List Expr → Expr → List Bool
bares terms x = (placed terms x).is_bare ∷ []

abbrev pub arm_bares : List Expr → When → List Bool
arm_bares terms w = bares terms w.when ++ bares terms w.then

abbrev pub layer_bares : Expr-F (List Bool) (List Bool) → List Bool
layer_bares (Column c) = true ∷ []
layer_bares (Aggregate kind args) = []
layer_bares y = parts y

-- which stand bare within an expression that is no term
abbrev pub part_bares : List Expr → Expr → List Bool
part_bares terms x = layer_bares (map-Expr Expr (When-F Expr (Unit {0})) (List Bool) (List Bool) (bares terms) (arm_bares terms) (out-Expr x))

-- found already, or one stands bare
unfoldable pub or_bare : Bool → List Bool → Bool
or_bare found bs = found || list_any (λ b. b) bs
