-- The AND-terms of a condition, and which expressions are quiet.
-- Source: this project's own rule on the order in which conditions are tested.
use Rattle.std.specs.Prelude.{Bool, true, false, ◌&&◌, List, [], ◌∷◌, ◌++◌, Option, Some, None}
use Rattle.cr_term.specs.declared.operator.Logic.TheVariants.{And}
use Rattle.cr_term.specs.declared.operator.Unary.TheVariants.{IsNull, NotNull}
use Rattle.cr_term.specs.declared.expr.Expr.{Expr, out-Expr}
use Rattle.cr_term.specs.declared.expr.Expr.TheOpen.{Expr-F, When-F, Literal, Param, Column, Unary, Logic, Compare, Collate}
use Rattle.cr_term.specs.declared.expr.Expr.TheFolds.{fold-Expr}
use Rattle.cr_term.specs.At.{at}
use Rattle.cr_term.specs.Same.{Layer}

-- ---- AND-terms

abbrev pub Cut : Type 0
Cut = Expr → List Expr

abbrev pub cut_and : Cut → Cut → Expr → Layer → List Expr
cut_and left right self (Logic And x y) = left x ++ right y
cut_and left right self _ = self ∷ []

-- a node, given itself
abbrev pub cut_node : Expr-F Cut (Unit {0}) → Cut
cut_node (Logic And left right) self = cut_and left right self (out-Expr self)
cut_node _ self = self ∷ []

abbrev pub cut_arm : When-F Cut (Unit {0}) → Unit {0}
cut_arm w = tt

abbrev pub cut : Expr → Cut
cut = fold-Expr Cut (Unit {0}) cut_node cut_arm

-- from left to right
abbrev pub and_terms : Expr → List Expr
and_terms e = at e (cut e)

-- no condition has none
abbrev pub terms_of : Option Expr → List Expr
terms_of None = []
terms_of (Some e) = and_terms e

-- ---- COLLATE around an expression

abbrev pub Strip : Type 0
Strip = Expr → Expr

abbrev pub strip_in : Strip → Layer → Strip
strip_in inner (Collate x name) self = inner x
strip_in inner _ self = self

abbrev pub strip_node : Expr-F Strip (Unit {0}) → Strip
strip_node (Collate inner name) self = strip_in inner (out-Expr self) self
strip_node _ self = self

abbrev pub strip_arm : When-F Strip (Unit {0}) → Unit {0}
strip_arm w = tt

-- without the COLLATEs around it
abbrev pub without_collate : Expr → Expr
without_collate x = at x (fold-Expr Strip (Unit {0}) strip_node strip_arm x)

-- ---- quiet expressions

abbrev pub plain_layer : Expr-F Bool (Unit {0}) → Bool
plain_layer (Literal v) = true
plain_layer (Param n) = true
plain_layer (Column c) = true
plain_layer (Collate x name) = x
plain_layer _ = false

abbrev pub plain_arm : When-F Bool (Unit {0}) → Unit {0}
plain_arm w = tt

-- a column, a literal or a parameter, possibly under COLLATE
abbrev pub plain : Expr → Bool
plain = fold-Expr Bool (Unit {0}) plain_layer plain_arm

abbrev pub quiet_layer : Layer → Bool
quiet_layer (Compare op m x y) = plain x && plain y
quiet_layer (Unary IsNull x) = plain x
quiet_layer (Unary NotNull x) = plain x
quiet_layer _ = false

-- a comparison or a null test of such operands
abbrev pub quiet : Expr → Bool
quiet e = quiet_layer (out-Expr e)
