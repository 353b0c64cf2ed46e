use Rattle.std.proofs.Common.{◌∙◌, ◌∷◌, [], map, refl}
use Rattle.cr_resolve.specs.Trees.{all, casts, casts_node}
use Rattle.cr_resolved.specs.Casts.{or_outside, arm_casts}
use Rattle.cr_resolved.proofs.Outside.{or_more, or_nothing, or_leaf}
use Rattle.cr_resolved.proofs.Steps.{next_part}
use Rattle.cr_resolved.proofs.Nodes.{carried, none_left, arm_from, binary_from, in_from, between_from, cast_from, case_from}
use Rattle.cr_resolved.proofs.casts.+casts.Goals as goal

pub or_any_casts-loop-tree-preserved : goal.or_any_casts-loop-tree-preserved
or_any_casts-loop-tree-preserved t c =
    next_part or_outside or_more casts c.args.trees.now c.loop-tree.tree-index c.tree-item.result
    c.loop-tree.found c.in_ok-found.found _ c.loop-tree-test.true c.tree-item.is c.in_ok-found.ensures c.loop-tree.invariant

pub or_any_casts-returns : goal.or_any_casts-returns
or_any_casts-returns t c =
    none_left (λ ts. or_outside c.loop-tree.found (all (map casts ts))) c.args.trees.now c.loop-tree.tree-index c.loop-tree.found _
    c.loop-tree-test.false (or_nothing c.loop-tree.found) c.loop-tree.invariant

pub or_arm_casts-loop-arm-preserved : goal.or_arm_casts-loop-arm-preserved
or_arm_casts-loop-arm-preserved t c =
    next_part or_outside or_more arm_casts c.args.arms.now c.loop-arm.arm-index c.arm-item.result
    c.loop-arm.found c.in_ok-found-2.found _ c.loop-arm-test.true c.arm-item.is
    (c.in_ok-found-2.ensures ∙ arm_from or_outside or_more casts_node c.arm-item.result c.loop-arm.found c.in_ok-found.found c.in_ok-found.ensures)
    c.loop-arm.invariant

pub or_arm_casts-returns : goal.or_arm_casts-returns
or_arm_casts-returns t c =
    none_left (λ ws. or_outside c.loop-arm.found (all (map arm_casts ws))) c.args.arms.now c.loop-arm.arm-index c.loop-arm.found _
    c.loop-arm-test.false (or_nothing c.loop-arm.found) c.loop-arm.invariant

pub or_casts-returns-in_ok-found-in-Binary : goal.or_casts-returns-in_ok-found-in-Binary
or_casts-returns-in_ok-found-in-Binary t c =
    carried c.or_casts-in-Binary.result _ _
    (binary_from or_outside or_more casts_node (λ op xs ys. refl) c.args.tree.now c.in-Binary.field-0 c.in-Binary.left c.in-Binary.right c.get.result.now c.get-in-Binary.result.now
    c.args.found c.in_ok-found-in-Binary.found c.in-Binary.is c.get.ensures c.get-in-Binary.ensures c.in_ok-found-in-Binary.ensures)
    c.or_casts-in-Binary.ensures

pub or_casts-returns-in_ok-found-in-In : goal.or_casts-returns-in_ok-found-in-In
or_casts-returns-in_ok-found-in-In t c =
    carried c.or_any_casts.result _ _
    (in_from or_outside or_more casts_node (λ n xs items. refl) c.args.tree.now c.in-In.field-0 c.in-In.operand c.get-in-In.result.now c.in-In.items c.as_slice.result.now
    c.args.found c.in_ok-found-in-In.found c.in-In.is c.get-in-In.ensures c.as_slice.ensures c.in_ok-found-in-In.ensures)
    c.or_any_casts.ensures

pub or_casts-returns-in_ok-found-in-Between-2 : goal.or_casts-returns-in_ok-found-in-Between-2
or_casts-returns-in_ok-found-in-Between-2 t c =
    carried c.or_casts-in-Between-3.result _ _
    (between_from or_outside or_more casts_node (λ n xs ys zs. refl) c.args.tree.now c.in-Between.field-0 c.in-Between.operand c.in-Between.low c.in-Between.high
    c.get-in-Between.result.now c.get-in-Between-2.result.now c.get-in-Between-3.result.now
    c.args.found c.in_ok-found-in-Between.found c.in_ok-found-in-Between-2.found
    c.in-Between.is c.get-in-Between.ensures c.get-in-Between-2.ensures c.get-in-Between-3.ensures c.in_ok-found-in-Between.ensures c.in_ok-found-in-Between-2.ensures)
    c.or_casts-in-Between-3.ensures

pub or_casts-returns-in_ok-found-in-Cast : goal.or_casts-returns-in_ok-found-in-Cast
or_casts-returns-in_ok-found-in-Cast t c =
    carried c.or_outside.result _ _
    (cast_from or_outside or_more casts_node (λ words. words ∷ []) (λ xs words. refl) c.args.tree.now c.in-Cast.operand c.get-in-Cast.result.now c.in-Cast.words c.as_slice-in-Cast.result.now
    c.args.found c.in_ok-found-in-Cast.found c.in-Cast.is c.get-in-Cast.ensures c.as_slice-in-Cast.ensures c.in_ok-found-in-Cast.ensures)
    c.or_outside.ensures

pub or_casts-returns-in_ok-found-in-Case-2 : goal.or_casts-returns-in_ok-found-in-Case-2
or_casts-returns-in_ok-found-in-Case-2 t c =
    carried c.or_operand_casts-in-Case.result _ _
    (case_from or_outside or_more casts_node (λ x arms y. refl) c.args.tree.now c.in-Case.operand c.in-Case.arms c.as_slice-in-Case.result.now c.in-Case.otherwise
    c.args.found c.in_ok-found-in-Case.found c.in_ok-found-in-Case-2.found c.in-Case.is c.as_slice-in-Case.ensures c.in_ok-found-in-Case.ensures c.in_ok-found-in-Case-2.ensures)
    c.or_operand_casts-in-Case.ensures

pub or_casts-returns-in-Literal : goal.or_casts-returns-in-Literal
or_casts-returns-in-Literal t c = or_leaf c.args.found c.args.tree.now c.in-Literal.is

pub or_casts-returns-in-Literal-2 : goal.or_casts-returns-in-Literal-2
or_casts-returns-in-Literal-2 t c = or_leaf c.args.found c.args.tree.now c.in-Literal.is

pub or_casts-returns-in-Literal-3 : goal.or_casts-returns-in-Literal-3
or_casts-returns-in-Literal-3 t c = or_leaf c.args.found c.args.tree.now c.in-Literal.is

pub or_casts-returns-in-Literal-4 : goal.or_casts-returns-in-Literal-4
or_casts-returns-in-Literal-4 t c = or_leaf c.args.found c.args.tree.now c.in-Literal.is
