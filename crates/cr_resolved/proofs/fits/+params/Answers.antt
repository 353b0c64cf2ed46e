use Rattle.std.proofs.Common.{◌∙◌, map, refl}
use Rattle.cr_resolve.specs.Trees.{all, params, params_node}
use Rattle.cr_resolved.specs.Fits.{seen_with, arm_params}
use Rattle.cr_resolved.proofs.Seen.{with_more, with_nothing, with_leaf, with_number}
use Rattle.cr_resolved.proofs.Steps.{next_part}
use Rattle.cr_resolved.proofs.Nodes.{none_left, arm_from, binary_from, in_from, between_from, case_from}
use Rattle.cr_resolved.proofs.fits.+params.Goals as goal

pub with_trees-loop-tree-preserved : goal.with_trees-loop-tree-preserved
with_trees-loop-tree-preserved t c =
    next_part seen_with with_more params c.args.trees.now c.loop-tree.tree-index c.tree-item.result
    c.loop-tree.seen c.with_tree-seen.result _ c.loop-tree-test.true c.tree-item.is c.with_tree-seen.ensures c.loop-tree.invariant

pub with_trees-returns : goal.with_trees-returns
with_trees-returns t c =
    none_left (λ ts. seen_with c.loop-tree.seen (all (map params ts))) c.args.trees.now c.loop-tree.tree-index c.loop-tree.seen _
    c.loop-tree-test.false (with_nothing c.loop-tree.seen) c.loop-tree.invariant

pub with_arms-loop-arm-preserved : goal.with_arms-loop-arm-preserved
with_arms-loop-arm-preserved t c =
    next_part seen_with with_more arm_params c.args.arms.now c.loop-arm.arm-index c.arm-item.result
    c.loop-arm.seen c.with_tree-seen-in-loop-arm.result _ c.loop-arm-test.true c.arm-item.is
    (c.with_tree-seen-in-loop-arm.ensures ∙ arm_from seen_with with_more params_node c.arm-item.result c.loop-arm.seen c.with_tree-seen.result c.with_tree-seen.ensures)
    c.loop-arm.invariant

pub with_arms-returns : goal.with_arms-returns
with_arms-returns t c =
    none_left (λ ws. seen_with c.loop-arm.seen (all (map arm_params ws))) c.args.arms.now c.loop-arm.arm-index c.loop-arm.seen _
    c.loop-arm-test.false (with_nothing c.loop-arm.seen) c.loop-arm.invariant

pub with_tree-returns-in-Param : goal.with_tree-returns-in-Param
with_tree-returns-in-Param t c = c.with_param.ensures ∙ with_number c.args.seen c.args.tree.now c.in-Param.number c.in-Param.is

pub with_tree-returns-in-Binary : goal.with_tree-returns-in-Binary
with_tree-returns-in-Binary t c =
    c.with_tree.ensures
    ∙ binary_from seen_with with_more params_node (λ op xs ys. refl) c.args.tree.now c.in-Binary.field-0 c.in-Binary.left c.in-Binary.right c.get.result.now c.get-in-Binary.result.now
    c.args.seen c.with_tree-seen.result c.in-Binary.is c.get.ensures c.get-in-Binary.ensures c.with_tree-seen.ensures

pub with_tree-returns-in-In : goal.with_tree-returns-in-In
with_tree-returns-in-In t c =
    c.with_trees.ensures
    ∙ in_from seen_with with_more params_node (λ n xs items. refl) c.args.tree.now c.in-In.field-0 c.in-In.operand c.get-in-In.result.now c.in-In.items c.as_slice.result.now
    c.args.seen c.with_tree-seen-in-In.result c.in-In.is c.get-in-In.ensures c.as_slice.ensures c.with_tree-seen-in-In.ensures

pub with_tree-returns-in-Between : goal.with_tree-returns-in-Between
with_tree-returns-in-Between t c =
    c.with_tree-in-Between.ensures
    ∙ between_from seen_with with_more params_node (λ n xs ys zs. refl) c.args.tree.now c.in-Between.field-0 c.in-Between.operand c.in-Between.low c.in-Between.high
    c.get-in-Between.result.now c.get-in-Between-2.result.now c.get-in-Between-3.result.now
    c.args.seen c.with_tree-seen-in-Between.result c.with_tree-seen-in-Between-2.result
    c.in-Between.is c.get-in-Between.ensures c.get-in-Between-2.ensures c.get-in-Between-3.ensures c.with_tree-seen-in-Between.ensures c.with_tree-seen-in-Between-2.ensures

pub with_tree-returns-in-Case : goal.with_tree-returns-in-Case
with_tree-returns-in-Case t c =
    c.with_operand.ensures
    ∙ case_from seen_with with_more params_node (λ x arms y. refl) c.args.tree.now c.in-Case.operand c.in-Case.arms c.as_slice-in-Case.result.now c.in-Case.otherwise
    c.args.seen c.with_operand-seen.result c.with_arms-seen.result c.in-Case.is c.as_slice-in-Case.ensures c.with_operand-seen.ensures c.with_arms-seen.ensures

pub with_tree-returns-in-Literal : goal.with_tree-returns-in-Literal
with_tree-returns-in-Literal t c = with_leaf c.args.seen c.args.tree.now c.in-Literal.is

pub with_tree-returns-in-Literal-2 : goal.with_tree-returns-in-Literal-2
with_tree-returns-in-Literal-2 t c = with_leaf c.args.seen c.args.tree.now c.in-Literal.is

pub with_tree-returns-in-Literal-3 : goal.with_tree-returns-in-Literal-3
with_tree-returns-in-Literal-3 t c = with_leaf c.args.seen c.args.tree.now c.in-Literal.is
