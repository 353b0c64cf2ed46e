use Rattle.std.proofs.Common.{refl}
use Rattle.cr_select.specs.Placed.{exprs_of, bares, arm_bares, or_bare}
use Rattle.cr_select.proofs.Bare.{or_more, in_from, between_from, case_from, pair_from, call_from}
use Rattle.cr_questions.proofs.Collected.{next_act, two_acts}
use Rattle.cr_select.proofs.placed.+bare.Goals as goal

pub or_any_bare-loop-expr-preserved : goal.or_any_bare-loop-expr-preserved
or_any_bare-loop-expr-preserved t c =
    next_act or_bare or_more (bares (exprs_of c.args.terms.now)) c.args.exprs.now c.loop-expr.expr-index c.expr-item.result
    c.loop-expr.found c.or_bare-found.result _ c.loop-expr-test.true c.expr-item.is c.or_bare-found.ensures c.loop-expr.invariant

pub or_arm_bare-loop-arm-preserved : goal.or_arm_bare-loop-arm-preserved
or_arm_bare-loop-arm-preserved t c =
    let comes = bares (exprs_of c.args.terms.now) in
    next_act or_bare or_more (arm_bares (exprs_of c.args.terms.now)) c.args.arms.now c.loop-arm.arm-index c.arm-item.result
    c.loop-arm.found c.or_bare-found-in-loop-arm.result _ c.loop-arm-test.true c.arm-item.is
    (two_acts or_bare or_more (comes c.arm-item.result.when) (comes c.arm-item.result.then) _
    c.loop-arm.found c.or_bare-found.result c.or_bare-found-in-loop-arm.result refl c.or_bare-found.ensures c.or_bare-found-in-loop-arm.ensures)
    c.loop-arm.invariant

pub is_bare_inside-returns-in-In : goal.is_bare_inside-returns-in-In
is_bare_inside-returns-in-In t c =
    in_from (exprs_of c.args.terms.now) c.args.expr.now c.in-In.field-0 c.in-In.field-1 c.in-In.operand c.get.result.now c.in-In.items c.as_slice.result.now
    c.or_bare-found.result c.or_any_bare.result
    c.in-In.is c.get.ensures c.as_slice.ensures c.or_bare-found.ensures c.or_any_bare.ensures

pub is_bare_inside-returns-in-Between : goal.is_bare_inside-returns-in-Between
is_bare_inside-returns-in-Between t c =
    between_from (exprs_of c.args.terms.now) c.args.expr.now c.in-Between.field-0 c.in-Between.field-1 c.in-Between.field-2 c.in-Between.operand c.in-Between.low c.in-Between.high
    c.get-in-Between.result.now c.get-in-Between-2.result.now c.get-in-Between-3.result.now
    c.or_bare-found-in-Between.result c.or_bare-found-in-Between-2.result c.or_bare.result
    c.in-Between.is c.get-in-Between.ensures c.get-in-Between-2.ensures c.get-in-Between-3.ensures c.or_bare-found-in-Between.ensures c.or_bare-found-in-Between-2.ensures c.or_bare.ensures

pub is_bare_inside-returns-in-Case : goal.is_bare_inside-returns-in-Case
is_bare_inside-returns-in-Case t c =
    case_from (exprs_of c.args.terms.now) c.args.expr.now c.in-Case.operand c.in-Case.arms c.as_slice-in-Case.result.now c.in-Case.otherwise
    c.or_bare_if_any-found.result c.or_arm_bare-found.result c.or_bare_if_any.result
    c.in-Case.is c.as_slice-in-Case.ensures c.or_bare_if_any-found.ensures c.or_arm_bare-found.ensures c.or_bare_if_any.ensures

pub is_bare_inside-returns-in-BuiltIn : goal.is_bare_inside-returns-in-BuiltIn
is_bare_inside-returns-in-BuiltIn t c =
    call_from (exprs_of c.args.terms.now) c.args.expr.now c.in-BuiltIn.args c.as_slice-in-BuiltIn.result.now c.or_any_bare-in-BuiltIn.result
    c.in-BuiltIn.is c.as_slice-in-BuiltIn.ensures c.or_any_bare-in-BuiltIn.ensures

pub is_bare_inside-returns-in-Arithmetic : goal.is_bare_inside-returns-in-Arithmetic
is_bare_inside-returns-in-Arithmetic t c =
    pair_from (exprs_of c.args.terms.now) c.args.expr.now c.in-Arithmetic.left c.in-Arithmetic.right c.get-in-Arithmetic.result.now c.get-in-Arithmetic-2.result.now
    c.or_bare-found-in-Arithmetic.result c.or_bare-in-Arithmetic.result
    c.in-Arithmetic.is c.get-in-Arithmetic.ensures c.get-in-Arithmetic-2.ensures c.or_bare-found-in-Arithmetic.ensures c.or_bare-in-Arithmetic.ensures
