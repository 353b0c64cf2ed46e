use Rattle.std.proofs.Common.{refl}
use Rattle.cr_term.specs.Parts.{columns, columns_layer}
use Rattle.cr_questions.specs.Asked.{arm_columns, or_is_read, relations}
use Rattle.cr_questions.proofs.Columns.{or_more}
use Rattle.cr_questions.proofs.Collected.{next_act, two_acts, in_from, between_from, case_from, pair_from, call_from}
use Rattle.cr_questions.proofs.reads.+reads.Goals as goal

pub or_any_reads-loop-expr-preserved : goal.or_any_reads-loop-expr-preserved
or_any_reads-loop-expr-preserved t c =
    next_act (or_is_read (relations c.args.sources) c.args.name.now) (or_more (relations c.args.sources) c.args.name.now) columns c.args.exprs.now c.loop-expr.expr-index c.expr-item.result
    c.loop-expr.found c.or_reads-found.result _ c.loop-expr-test.true c.expr-item.is c.or_reads-found.ensures c.loop-expr.invariant

pub or_arm_reads-loop-arm-preserved : goal.or_arm_reads-loop-arm-preserved
or_arm_reads-loop-arm-preserved t c =
    next_act (or_is_read (relations c.args.sources) c.args.name.now) (or_more (relations c.args.sources) c.args.name.now) arm_columns c.args.arms.now c.loop-arm.arm-index c.arm-item.result
    c.loop-arm.found c.or_reads-found-in-loop-arm.result _ c.loop-arm-test.true c.arm-item.is
    (two_acts (or_is_read (relations c.args.sources) c.args.name.now) (or_more (relations c.args.sources) c.args.name.now) (columns c.arm-item.result.when) (columns c.arm-item.result.then) _
    c.loop-arm.found c.or_reads-found.result c.or_reads-found-in-loop-arm.result refl c.or_reads-found.ensures c.or_reads-found-in-loop-arm.ensures)
    c.loop-arm.invariant

pub or_part_reads-returns-in-In : goal.or_part_reads-returns-in-In
or_part_reads-returns-in-In t c =
    in_from columns_layer (or_is_read (relations c.args.sources) c.args.name.now) (or_more (relations c.args.sources) c.args.name.now) c.args.expr.now c.in-In.field-0 c.in-In.field-1 c.in-In.operand c.get.result.now c.in-In.items c.as_slice.result.now
    c.args.found c.or_reads-found.result c.or_any_reads.result
    c.in-In.is c.get.ensures c.as_slice.ensures c.or_reads-found.ensures c.or_any_reads.ensures

pub or_part_reads-returns-in-Between : goal.or_part_reads-returns-in-Between
or_part_reads-returns-in-Between t c =
    between_from columns_layer (or_is_read (relations c.args.sources) c.args.name.now) (or_more (relations c.args.sources) c.args.name.now) c.args.expr.now c.in-Between.field-0 c.in-Between.field-1 c.in-Between.field-2 c.in-Between.operand c.in-Between.low c.in-Between.high
    c.get-in-Between.result.now c.get-in-Between-2.result.now c.get-in-Between-3.result.now
    c.args.found c.or_reads-found-in-Between.result c.or_reads-found-in-Between-2.result c.or_reads.result
    c.in-Between.is c.get-in-Between.ensures c.get-in-Between-2.ensures c.get-in-Between-3.ensures c.or_reads-found-in-Between.ensures c.or_reads-found-in-Between-2.ensures c.or_reads.ensures

pub or_part_reads-returns-in-Case : goal.or_part_reads-returns-in-Case
or_part_reads-returns-in-Case t c =
    case_from columns_layer (or_is_read (relations c.args.sources) c.args.name.now) (or_more (relations c.args.sources) c.args.name.now) c.args.expr.now c.in-Case.operand c.in-Case.arms c.as_slice-in-Case.result.now c.in-Case.otherwise
    c.args.found c.or_reads_if_any-found.result c.or_arm_reads-found.result c.or_reads_if_any.result
    c.in-Case.is c.as_slice-in-Case.ensures c.or_reads_if_any-found.ensures c.or_arm_reads-found.ensures c.or_reads_if_any.ensures

pub or_part_reads-returns-in-BuiltIn : goal.or_part_reads-returns-in-BuiltIn
or_part_reads-returns-in-BuiltIn t c =
    call_from columns_layer (or_is_read (relations c.args.sources) c.args.name.now) (or_more (relations c.args.sources) c.args.name.now) c.args.expr.now c.in-BuiltIn.args c.as_slice-in-BuiltIn.result.now c.args.found c.or_any_reads-in-BuiltIn.result
    c.in-BuiltIn.is c.as_slice-in-BuiltIn.ensures c.or_any_reads-in-BuiltIn.ensures

pub or_part_reads-returns-in-Arithmetic : goal.or_part_reads-returns-in-Arithmetic
or_part_reads-returns-in-Arithmetic t c =
    pair_from columns_layer (or_is_read (relations c.args.sources) c.args.name.now) (or_more (relations c.args.sources) c.args.name.now) c.args.expr.now c.in-Arithmetic.left c.in-Arithmetic.right c.get-in-Arithmetic.result.now c.get-in-Arithmetic-2.result.now
    c.args.found c.or_reads-found-in-Arithmetic.result c.or_reads-in-Arithmetic.result
    c.in-Arithmetic.is c.get-in-Arithmetic.ensures c.get-in-Arithmetic-2.ensures c.or_reads-found-in-Arithmetic.ensures c.or_reads-in-Arithmetic.ensures
