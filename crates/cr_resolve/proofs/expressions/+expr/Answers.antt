use Rattle.cr_resolve.specs.Cases.{arms_read}
use Rattle.cr_resolve.proofs.Parts as parts
use Rattle.cr_resolve.proofs.PartLists as lists
use Rattle.cr_resolve.proofs.expressions.+expr.Goals as goal

pub arms_at-loop-tree-preserved : goal.arms_at-loop-tree-preserved
arms_at-loop-tree-preserved g t c =
    lists.arms_go_on (g.K.Naming.known c.args.known.now) c.args.place.sources.now c.args.place.may_aggregate (arms_read c.loop-tree.arms) (arms_read c.push.new.self) c.in_ok-when.when c.in_ok-gives.gives c.args.trees.now c.args.trees.now c.loop-tree.tree-index c.tree-item.result
    c.loop-tree-test.true c.tree-item.is c.in_ok-when.ensures c.in_ok-gives.ensures c.in_ok-push.ensures c.loop-tree.invariant

pub expr_at-returns-in_err-operand-in-Unary : goal.expr_at-returns-in_err-operand-in-Unary
expr_at-returns-in_err-operand-in-Unary g t c =
    parts.handed_on (g.K.Naming.known c.args.known.now) c.args.place.sources.now c.args.place.may_aggregate c.args.tree.now c.from_residual.result c.in_err-operand-in-Unary.field-0.0 c.from_residual.ensures.1
    (parts.sign_refused (g.K.Naming.known c.args.known.now) c.args.place.sources.now c.args.place.may_aggregate c.args.tree.now c.in-Unary.sign c.in-Unary.operand c.get.result.now c.in_err-operand-in-Unary.field-0.0 c.in-Unary.is c.get.ensures c.in_err-operand-in-Unary.ensures)

pub expr_at-returns-in_err-operand-in-Collate : goal.expr_at-returns-in_err-operand-in-Collate
expr_at-returns-in_err-operand-in-Collate g t c =
    parts.handed_on (g.K.Naming.known c.args.known.now) c.args.place.sources.now c.args.place.may_aggregate c.args.tree.now c.from_residual-in_err-operand-in-Collate.result c.in_err-operand-in-Collate.field-0.0 c.from_residual-in_err-operand-in-Collate.ensures.1
    (parts.collate_refused (g.K.Naming.known c.args.known.now) c.args.place.sources.now c.args.place.may_aggregate c.args.tree.now c.in-Collate.operand c.get-in-Collate.result.now c.in-Collate.name c.in_err-operand-in-Collate.field-0.0 c.in-Collate.is c.get-in-Collate.ensures c.in_err-operand-in-Collate.ensures)

pub expr_at-returns-in_err-operand-in-Cast : goal.expr_at-returns-in_err-operand-in-Cast
expr_at-returns-in_err-operand-in-Cast g t c =
    parts.handed_on (g.K.Naming.known c.args.known.now) c.args.place.sources.now c.args.place.may_aggregate c.args.tree.now c.from_residual-in_err-operand-in-Cast.result c.in_err-operand-in-Cast.field-0.0 c.from_residual-in_err-operand-in-Cast.ensures.1
    (parts.cast_refused (g.K.Naming.known c.args.known.now) c.args.place.sources.now c.args.place.may_aggregate c.args.tree.now c.in-Cast.operand c.get-in-Cast.result.now c.in-Cast.words c.in_err-operand-in-Cast.field-0.0 c.in-Cast.is c.get-in-Cast.ensures c.in_err-operand-in-Cast.ensures)

pub expr_at-returns-in_err-left-in-Binary : goal.expr_at-returns-in_err-left-in-Binary
expr_at-returns-in_err-left-in-Binary g t c =
    parts.handed_on (g.K.Naming.known c.args.known.now) c.args.place.sources.now c.args.place.may_aggregate c.args.tree.now c.from_residual-in_err-left-in-Binary.result c.in_err-left-in-Binary.field-0.0 c.from_residual-in_err-left-in-Binary.ensures.1
    (parts.left_refused (g.K.Naming.known c.args.known.now) c.args.place.sources.now c.args.place.may_aggregate c.args.tree.now c.in-Binary.op c.get-in-Binary.result.now c.in-Binary.left c.in-Binary.right c.in_err-left-in-Binary.field-0.0 c.in-Binary.is c.get-in-Binary.ensures c.in_err-left-in-Binary.ensures)

pub expr_at-returns-in_err-operand-in-In : goal.expr_at-returns-in_err-operand-in-In
expr_at-returns-in_err-operand-in-In g t c =
    parts.handed_on (g.K.Naming.known c.args.known.now) c.args.place.sources.now c.args.place.may_aggregate c.args.tree.now c.from_residual-in_err-operand-in-In.result c.in_err-operand-in-In.field-0.0 c.from_residual-in_err-operand-in-In.ensures.1
    (parts.in_refused (g.K.Naming.known c.args.known.now) c.args.place.sources.now c.args.place.may_aggregate c.args.tree.now c.in-In.is_negated c.get-in-In.result.now c.in-In.operand c.in-In.items c.in_err-operand-in-In.field-0.0 c.in-In.is c.get-in-In.ensures c.in_err-operand-in-In.ensures)

pub expr_at-returns-in_err-operand-in-Between : goal.expr_at-returns-in_err-operand-in-Between
expr_at-returns-in_err-operand-in-Between g t c =
    parts.handed_on (g.K.Naming.known c.args.known.now) c.args.place.sources.now c.args.place.may_aggregate c.args.tree.now c.from_residual-in_err-operand-in-Between.result c.in_err-operand-in-Between.field-0.0 c.from_residual-in_err-operand-in-Between.ensures.1
    (parts.between_refused (g.K.Naming.known c.args.known.now) c.args.place.sources.now c.args.place.may_aggregate c.args.tree.now c.in-Between.is_negated c.get-in-Between.result.now c.in-Between.operand c.in-Between.low c.in-Between.high c.in_err-operand-in-Between.field-0.0 c.in-Between.is c.get-in-Between.ensures c.in_err-operand-in-Between.ensures)

pub expr_at-returns-in_err-low-in-Between : goal.expr_at-returns-in_err-low-in-Between
expr_at-returns-in_err-low-in-Between g t c =
    parts.handed_on (g.K.Naming.known c.args.known.now) c.args.place.sources.now c.args.place.may_aggregate c.args.tree.now c.from_residual-in_err-low-in-Between.result c.in_err-low-in-Between.field-0.0 c.from_residual-in_err-low-in-Between.ensures.1
    (parts.low_refused (g.K.Naming.known c.args.known.now) c.args.place.sources.now c.args.place.may_aggregate c.args.tree.now c.in-Between.is_negated c.get-in-Between.result.now c.in-Between.operand c.get-in-Between-2.result.now c.in-Between.low c.in-Between.high c.in_ok-operand-in-Between.operand c.in_err-low-in-Between.field-0.0 c.in-Between.is c.get-in-Between.ensures c.get-in-Between-2.ensures c.in_ok-operand-in-Between.ensures c.in_err-low-in-Between.ensures)

pub expr_at-returns-in_err-operand-in-Case : goal.expr_at-returns-in_err-operand-in-Case
expr_at-returns-in_err-operand-in-Case g t c =
    parts.handed_on (g.K.Naming.known c.args.known.now) c.args.place.sources.now c.args.place.may_aggregate c.args.tree.now c.from_residual-in_err-operand-in-Case.result c.in_err-operand-in-Case.field-0.0 c.from_residual-in_err-operand-in-Case.ensures.1
    (parts.case_refused (g.K.Naming.known c.args.known.now) c.args.place.sources.now c.args.place.may_aggregate c.args.tree.now c.in-Case.operand c.in-Case.arms c.in-Case.otherwise c.in_err-operand-in-Case.field-0.0 c.in-Case.is c.in_err-operand-in-Case.ensures)

pub expr_at-returns-in_err-arms-in-Case : goal.expr_at-returns-in_err-arms-in-Case
expr_at-returns-in_err-arms-in-Case g t c =
    parts.handed_on (g.K.Naming.known c.args.known.now) c.args.place.sources.now c.args.place.may_aggregate c.args.tree.now c.from_residual-in_err-arms-in-Case.result c.in_err-arms-in-Case.field-0.0 c.from_residual-in_err-arms-in-Case.ensures.1
    (parts.arms_refused (g.K.Naming.known c.args.known.now) c.args.place.sources.now c.args.place.may_aggregate c.args.tree.now c.in-Case.operand c.as_slice-in-Case.result.now c.in-Case.arms c.in-Case.otherwise c.in_ok-operand-in-Case.operand c.in_err-arms-in-Case.field-0.0 c.in-Case.is c.as_slice-in-Case.ensures c.in_ok-operand-in-Case.ensures c.in_err-arms-in-Case.ensures)

pub expr_at-returns-in-Literal : goal.expr_at-returns-in-Literal
expr_at-returns-in-Literal g t c =
    parts.literal (g.K.Naming.known c.args.known.now) c.args.place.sources.now c.args.place.may_aggregate c.args.tree.now c.in-Literal.value c.literal.result c.in-Literal.is c.literal.ensures

pub expr_at-returns-in-Param : goal.expr_at-returns-in-Param
expr_at-returns-in-Param g t c =
    parts.param (g.K.Naming.known c.args.known.now) c.args.place.sources.now c.args.place.may_aggregate c.args.tree.now c.in-Param.number c.parameter.result c.in-Param.is c.parameter.ensures

pub expr_at-returns-in-Column : goal.expr_at-returns-in-Column
expr_at-returns-in-Column g t c =
    parts.named (g.K.Naming.known c.args.known.now) c.args.place.sources.now c.args.place.may_aggregate c.args.tree.now c.in-Column.source c.in-Column.name c.column_at.result c.in-Column.is c.column_at.ensures

pub expr_at-returns-in-CountAll : goal.expr_at-returns-in-CountAll
expr_at-returns-in-CountAll g t c =
    parts.count_all (g.K.Naming.known c.args.known.now) c.args.place.sources.now c.args.place.may_aggregate c.args.tree.now c.count_all.result c.in-CountAll.is c.count_all.ensures

pub expr_at-returns-in_ok-operand-in-Unary : goal.expr_at-returns-in_ok-operand-in-Unary
expr_at-returns-in_ok-operand-in-Unary g t c =
    parts.sign (g.K.Naming.known c.args.known.now) c.args.place.sources.now c.args.place.may_aggregate c.args.tree.now c.in-Unary.sign c.in-Unary.operand c.get.result.now c.in_ok-operand-in-Unary.operand c.signed.result c.in-Unary.is c.get.ensures c.in_ok-operand-in-Unary.ensures c.signed.ensures

pub expr_at-returns-in_ok-operand-in-Collate : goal.expr_at-returns-in_ok-operand-in-Collate
expr_at-returns-in_ok-operand-in-Collate g t c =
    parts.collate (g.K.Naming.known c.args.known.now) c.args.place.sources.now c.args.place.may_aggregate c.args.tree.now c.in-Collate.operand c.get-in-Collate.result.now c.in-Collate.name c.in_ok-operand-in-Collate.operand c.collate.result c.in-Collate.is c.get-in-Collate.ensures c.in_ok-operand-in-Collate.ensures c.collate.ensures

pub expr_at-returns-in_ok-operand-in-Cast : goal.expr_at-returns-in_ok-operand-in-Cast
expr_at-returns-in_ok-operand-in-Cast g t c =
    parts.cast (g.K.Naming.known c.args.known.now) c.args.place.sources.now c.args.place.may_aggregate c.args.tree.now c.in-Cast.operand c.get-in-Cast.result.now c.in-Cast.words c.as_slice.result.now c.in_ok-operand-in-Cast.operand c.turned.result c.in-Cast.is c.get-in-Cast.ensures c.as_slice.ensures c.in_ok-operand-in-Cast.ensures c.turned.ensures

pub expr_at-returns-in_ok-left-in-Binary : goal.expr_at-returns-in_ok-left-in-Binary
expr_at-returns-in_ok-left-in-Binary g t c =
    parts.operator (g.K.Naming.known c.args.known.now) c.args.place.sources.now c.args.place.may_aggregate c.args.tree.now c.in-Binary.op c.get-in-Binary.result.now c.in-Binary.left c.get-in-Binary-2.result.now c.in-Binary.right c.in_ok-left-in-Binary.left c.right_at.result c.in-Binary.is c.get-in-Binary.ensures c.get-in-Binary-2.ensures c.in_ok-left-in-Binary.ensures c.right_at.ensures

pub expr_at-returns-in_ok-operand-in-In : goal.expr_at-returns-in_ok-operand-in-In
expr_at-returns-in_ok-operand-in-In g t c =
    parts.among (g.K.Naming.known c.args.known.now) c.args.place.sources.now c.args.place.may_aggregate c.args.tree.now c.in-In.is_negated c.get-in-In.result.now c.in-In.operand c.as_slice-in-In.result.now c.in-In.items c.in_ok-operand-in-In.operand c.items_at.result c.in-In.is c.get-in-In.ensures c.as_slice-in-In.ensures c.in_ok-operand-in-In.ensures c.items_at.ensures

pub expr_at-returns-in_ok-low-in-Between : goal.expr_at-returns-in_ok-low-in-Between
expr_at-returns-in_ok-low-in-Between g t c =
    parts.between (g.K.Naming.known c.args.known.now) c.args.place.sources.now c.args.place.may_aggregate c.args.tree.now c.in-Between.is_negated c.get-in-Between.result.now c.in-Between.operand c.get-in-Between-2.result.now c.in-Between.low c.get-in-Between-3.result.now c.in-Between.high c.in_ok-operand-in-Between.operand c.in_ok-low-in-Between.low c.high_at.result
    c.in-Between.is c.get-in-Between.ensures c.get-in-Between-2.ensures c.get-in-Between-3.ensures c.in_ok-operand-in-Between.ensures c.in_ok-low-in-Between.ensures c.high_at.ensures

pub expr_at-returns-in_ok-arms-in-Case : goal.expr_at-returns-in_ok-arms-in-Case
expr_at-returns-in_ok-arms-in-Case g t c =
    parts.cases (g.K.Naming.known c.args.known.now) c.args.place.sources.now c.args.place.may_aggregate c.args.tree.now c.in-Case.operand c.as_slice-in-Case.result.now c.in-Case.arms c.in-Case.otherwise c.in_ok-operand-in-Case.operand c.in_ok-arms-in-Case.arms c.else_at.result c.in-Case.is c.as_slice-in-Case.ensures c.in_ok-operand-in-Case.ensures c.in_ok-arms-in-Case.ensures c.else_at.ensures
