use Rattle.std.proofs.Common.{refl}
use Rattle.cr_term.specs.Parts.{aggregates, aggregates_layer}
use Rattle.cr_select.specs.Aggregates.{or_any, arm_aggregates}
use Rattle.cr_select.proofs.Found.{or_more}
use Rattle.cr_questions.proofs.Collected.{next_act, two_acts, in_from, between_from, case_from, pair_from, call_from}
use Rattle.cr_select.proofs.aggregates.+aggregates.Goals as goal

pub or_any_aggregates-loop-expr-preserved : goal.or_any_aggregates-loop-expr-preserved
or_any_aggregates-loop-expr-preserved t c =
    next_act or_any or_more aggregates c.args.exprs.now c.loop-expr.expr-index c.expr-item.result
    c.loop-expr.found c.or_aggregates-found.result _ c.loop-expr-test.true c.expr-item.is c.or_aggregates-found.ensures c.loop-expr.invariant

pub or_arm_aggregates-loop-arm-preserved : goal.or_arm_aggregates-loop-arm-preserved
or_arm_aggregates-loop-arm-preserved t c =
    next_act or_any or_more arm_aggregates c.args.arms.now c.loop-arm.arm-index c.arm-item.result
    c.loop-arm.found c.or_aggregates-found-in-loop-arm.result _ c.loop-arm-test.true c.arm-item.is
    (two_acts or_any or_more (aggregates c.arm-item.result.when) (aggregates c.arm-item.result.then) _
    c.loop-arm.found c.or_aggregates-found.result c.or_aggregates-found-in-loop-arm.result refl c.or_aggregates-found.ensures c.or_aggregates-found-in-loop-arm.ensures)
    c.loop-arm.invariant

pub or_part_aggregates-returns-in-In : goal.or_part_aggregates-returns-in-In
or_part_aggregates-returns-in-In t c =
    in_from aggregates_layer or_any or_more c.args.expr.now c.in-In.field-0 c.in-In.field-1 c.in-In.operand c.get.result.now c.in-In.items c.as_slice.result.now
    c.args.found c.or_aggregates-found.result c.or_any_aggregates.result
    c.in-In.is c.get.ensures c.as_slice.ensures c.or_aggregates-found.ensures c.or_any_aggregates.ensures

pub or_part_aggregates-returns-in-Between : goal.or_part_aggregates-returns-in-Between
or_part_aggregates-returns-in-Between t c =
    between_from aggregates_layer or_any or_more c.args.expr.now c.in-Between.field-0 c.in-Between.field-1 c.in-Between.field-2 c.in-Between.operand c.in-Between.low c.in-Between.high
    c.get-in-Between.result.now c.get-in-Between-2.result.now c.get-in-Between-3.result.now
    c.args.found c.or_aggregates-found-in-Between.result c.or_aggregates-found-in-Between-2.result c.or_aggregates.result
    c.in-Between.is c.get-in-Between.ensures c.get-in-Between-2.ensures c.get-in-Between-3.ensures c.or_aggregates-found-in-Between.ensures c.or_aggregates-found-in-Between-2.ensures c.or_aggregates.ensures

pub or_part_aggregates-returns-in-Case : goal.or_part_aggregates-returns-in-Case
or_part_aggregates-returns-in-Case t c =
    case_from aggregates_layer or_any or_more c.args.expr.now c.in-Case.operand c.in-Case.arms c.as_slice-in-Case.result.now c.in-Case.otherwise
    c.args.found c.or_aggregates_if_any-found.result c.or_arm_aggregates-found.result c.or_aggregates_if_any.result
    c.in-Case.is c.as_slice-in-Case.ensures c.or_aggregates_if_any-found.ensures c.or_arm_aggregates-found.ensures c.or_aggregates_if_any.ensures

pub or_part_aggregates-returns-in-BuiltIn : goal.or_part_aggregates-returns-in-BuiltIn
or_part_aggregates-returns-in-BuiltIn t c =
    call_from aggregates_layer or_any or_more c.args.expr.now c.in-BuiltIn.args c.as_slice-in-BuiltIn.result.now c.args.found c.or_any_aggregates-in-BuiltIn.result
    c.in-BuiltIn.is c.as_slice-in-BuiltIn.ensures c.or_any_aggregates-in-BuiltIn.ensures

pub or_part_aggregates-returns-in-Arithmetic : goal.or_part_aggregates-returns-in-Arithmetic
or_part_aggregates-returns-in-Arithmetic t c =
    pair_from aggregates_layer or_any or_more c.args.expr.now c.in-Arithmetic.left c.in-Arithmetic.right c.get-in-Arithmetic.result.now c.get-in-Arithmetic-2.result.now
    c.args.found c.or_aggregates-found-in-Arithmetic.result c.or_aggregates-in-Arithmetic.result
    c.in-Arithmetic.is c.get-in-Arithmetic.ensures c.get-in-Arithmetic-2.ensures c.or_aggregates-found-in-Arithmetic.ensures c.or_aggregates-in-Arithmetic.ensures
