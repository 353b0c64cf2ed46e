use Rattle.std.proofs.Common.{◌≡◌, drop}
use Rattle.std.specs.Option.{option_map}
use Rattle.std.specs.List.{flat_map}
use Rattle.cr_questions.specs.Questions.{asked_all}
use Rattle.cr_questions.specs.Asked.{arm_questions, or_first_denied, relations, told}
use Rattle.cr_questions.proofs.denied.+denied.Given as goal

abbrev pub invariant-or_any_denied-loop-expr : goal.invariant-or_any_denied-loop-expr
invariant-or_any_denied-loop-expr g l =
    or_first_denied (g.G.Answering.answers l.guard) (option_map told l.found) (asked_all (relations l.sources) (drop l.expr-index l.exprs))
    ≡ or_first_denied (g.G.Answering.answers l.guard) (option_map told l.initial.found) (asked_all (relations l.sources) l.exprs)

abbrev pub invariant-or_arm_denied-loop-arm : goal.invariant-or_arm_denied-loop-arm
invariant-or_arm_denied-loop-arm g l =
    or_first_denied (g.G.Answering.answers l.guard) (option_map told l.found) (flat_map (arm_questions (relations l.sources)) (drop l.arm-index l.arms))
    ≡ or_first_denied (g.G.Answering.answers l.guard) (option_map told l.initial.found) (flat_map (arm_questions (relations l.sources)) l.arms)
