use Rattle.std.proofs.Common.{refl}
use Rattle.std.specs.Option.{option_map}
use Rattle.cr_questions.specs.Questions.{asked, questions_node}
use Rattle.cr_questions.specs.Asked.{arm_questions, or_first_denied, relations, told}
use Rattle.cr_questions.proofs.Denials.{denied_more}
use Rattle.cr_questions.proofs.Collected.{next_act, two_acts, in_from, between_from, case_from, pair_from, call_from}
use Rattle.cr_questions.proofs.denied.+denied.Goals as goal

pub or_any_denied-loop-expr-preserved : goal.or_any_denied-loop-expr-preserved
or_any_denied-loop-expr-preserved g t c =
    next_act (or_first_denied (g.G.Answering.answers c.args.guard.now)) (denied_more (g.G.Answering.answers c.args.guard.now)) (asked (relations c.args.sources)) c.args.exprs.now c.loop-expr.expr-index c.expr-item.result
    (option_map told c.loop-expr.found) (option_map told c.or_denied-found.result) _ c.loop-expr-test.true c.expr-item.is c.or_denied-found.ensures c.loop-expr.invariant

pub or_arm_denied-loop-arm-preserved : goal.or_arm_denied-loop-arm-preserved
or_arm_denied-loop-arm-preserved g t c =
    next_act (or_first_denied (g.G.Answering.answers c.args.guard.now)) (denied_more (g.G.Answering.answers c.args.guard.now)) (arm_questions (relations c.args.sources)) c.args.arms.now c.loop-arm.arm-index c.arm-item.result
    (option_map told c.loop-arm.found) (option_map told c.or_denied-found-in-loop-arm.result) _ c.loop-arm-test.true c.arm-item.is
    (two_acts (or_first_denied (g.G.Answering.answers c.args.guard.now)) (denied_more (g.G.Answering.answers c.args.guard.now)) (asked (relations c.args.sources) c.arm-item.result.when) (asked (relations c.args.sources) c.arm-item.result.then) _
    (option_map told c.loop-arm.found) (option_map told c.or_denied-found.result) (option_map told c.or_denied-found-in-loop-arm.result) refl c.or_denied-found.ensures c.or_denied-found-in-loop-arm.ensures)
    c.loop-arm.invariant

pub or_part_denied-returns-in-In : goal.or_part_denied-returns-in-In
or_part_denied-returns-in-In g t c =
    in_from (questions_node (relations c.args.sources)) (or_first_denied (g.G.Answering.answers c.args.guard.now)) (denied_more (g.G.Answering.answers c.args.guard.now)) c.args.expr.now c.in-In.field-0 c.in-In.field-1 c.in-In.operand c.get.result.now c.in-In.items c.as_slice.result.now
    (option_map told c.args.found) (option_map told c.or_denied-found.result) (option_map told c.or_any_denied.result)
    c.in-In.is c.get.ensures c.as_slice.ensures c.or_denied-found.ensures c.or_any_denied.ensures

pub or_part_denied-returns-in-Between : goal.or_part_denied-returns-in-Between
or_part_denied-returns-in-Between g t c =
    between_from (questions_node (relations c.args.sources)) (or_first_denied (g.G.Answering.answers c.args.guard.now)) (denied_more (g.G.Answering.answers c.args.guard.now)) c.args.expr.now c.in-Between.field-0 c.in-Between.field-1 c.in-Between.field-2 c.in-Between.operand c.in-Between.low c.in-Between.high
    c.get-in-Between.result.now c.get-in-Between-2.result.now c.get-in-Between-3.result.now
    (option_map told c.args.found) (option_map told c.or_denied-found-in-Between.result) (option_map told c.or_denied-found-in-Between-2.result) (option_map told c.or_denied.result)
    c.in-Between.is c.get-in-Between.ensures c.get-in-Between-2.ensures c.get-in-Between-3.ensures c.or_denied-found-in-Between.ensures c.or_denied-found-in-Between-2.ensures c.or_denied.ensures

pub or_part_denied-returns-in-Case : goal.or_part_denied-returns-in-Case
or_part_denied-returns-in-Case g t c =
    case_from (questions_node (relations c.args.sources)) (or_first_denied (g.G.Answering.answers c.args.guard.now)) (denied_more (g.G.Answering.answers c.args.guard.now)) c.args.expr.now c.in-Case.operand c.in-Case.arms c.as_slice-in-Case.result.now c.in-Case.otherwise
    (option_map told c.args.found) (option_map told c.or_denied_if_any-found.result) (option_map told c.or_arm_denied-found.result) (option_map told c.or_denied_if_any.result)
    c.in-Case.is c.as_slice-in-Case.ensures c.or_denied_if_any-found.ensures c.or_arm_denied-found.ensures c.or_denied_if_any.ensures

pub or_part_denied-returns-in-BuiltIn : goal.or_part_denied-returns-in-BuiltIn
or_part_denied-returns-in-BuiltIn g t c =
    call_from (questions_node (relations c.args.sources)) (or_first_denied (g.G.Answering.answers c.args.guard.now)) (denied_more (g.G.Answering.answers c.args.guard.now)) c.args.expr.now c.in-BuiltIn.args c.as_slice-in-BuiltIn.result.now (option_map told c.args.found) (option_map told c.or_any_denied-in-BuiltIn.result)
    c.in-BuiltIn.is c.as_slice-in-BuiltIn.ensures c.or_any_denied-in-BuiltIn.ensures

pub or_part_denied-returns-in-Arithmetic : goal.or_part_denied-returns-in-Arithmetic
or_part_denied-returns-in-Arithmetic g t c =
    pair_from (questions_node (relations c.args.sources)) (or_first_denied (g.G.Answering.answers c.args.guard.now)) (denied_more (g.G.Answering.answers c.args.guard.now)) c.args.expr.now c.in-Arithmetic.left c.in-Arithmetic.right c.get-in-Arithmetic.result.now c.get-in-Arithmetic-2.result.now
    (option_map told c.args.found) (option_map told c.or_denied-found-in-Arithmetic.result) (option_map told c.or_denied-in-Arithmetic.result)
    c.in-Arithmetic.is c.get-in-Arithmetic.ensures c.get-in-Arithmetic-2.ensures c.or_denied-found-in-Arithmetic.ensures c.or_denied-in-Arithmetic.ensures
