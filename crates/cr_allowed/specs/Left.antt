-- What is left of an expression's parts.
use Rattle.std.specs.Prelude.{List, Option}
use Rattle.cr_term.specs.declared.expr.When.{When}
use Rattle.cr_term.specs.declared.expr.Expr.{Expr, out-Expr, map-Expr}
use Rattle.cr_term.specs.declared.expr.Expr.TheOpen.{When-F}
use Rattle.cr_term.specs.declared.expr.Expr.TheFolds.{fold-When}
use Rattle.cr_term.specs.declared.query.Relation.{Relation}
use Rattle.cr_term.specs.Build.{built}
use Rattle.cr_build.specs.Parts.{arm_of}
use Rattle.cr_questions.specs.Questions.{Answers, left, left_node, left_arm}

-- an arm of a CASE, with what is left of its operand
abbrev pub arm_left : Answers → List Relation → Option Expr → When → When
arm_left answers tables x w = arm_of x (left answers tables w.when) (left answers tables w.then)

-- an expression built of what is left of its parts
abbrev pub parts_left : Answers → List Relation → Expr → Expr
parts_left answers tables x = built (map-Expr Expr (When-F Expr (Unit {0})) Expr When (left answers tables) (fold-When Expr When (left_node answers tables) left_arm) (out-Expr x))
