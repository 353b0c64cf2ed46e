use Rattle.std.proofs.Common.{◌≡◌, map, take}
use Rattle.cr_questions.specs.Questions.{left}
use Rattle.cr_questions.specs.Asked.{relations}
use Rattle.cr_allowed.specs.Left.{arm_left}
use Rattle.cr_allowed.proofs.left.+left.Given as goal

abbrev pub invariant-left_all-loop-expr : goal.invariant-left_all-loop-expr
invariant-left_all-loop-expr g l = l.lefts.items ≡ map (left (g.G.Answering.answers l.guard) (relations l.sources)) (take l.expr-index l.exprs)

abbrev pub invariant-left_arms-loop-one : goal.invariant-left_arms-loop-one
invariant-left_arms-loop-one g l = l.lefts.items ≡ map (arm_left (g.G.Answering.answers l.guard) (relations l.sources) l.operand) (take l.one-index l.arms)
