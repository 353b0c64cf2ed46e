use Rattle.std.proofs.Common.{◌≡◌, ◌&&◌, false}
use Rattle.cr_term.specs.Same.{same}
use Rattle.cr_select.proofs.Sameness.{all_differ, arms_differ}
use Rattle.cr_select.proofs.same.+same.Goals as goal

pub same_all-returns-then-not-is_same : goal.same_all-returns-then-not-is_same
same_all-returns-then-not-is_same t c =
    let differ : same c.expr-item.result c.in-Some.other.now ≡ false = cc in
    all_differ c.args.left.now c.loop-expr.rest.now c.in-Some.more.now c.loop-expr.expr-index c.expr-item.result c.in-Some.other.now _ c.loop-expr-test.true c.expr-item.is c.in-Some.ensures.cases.0 differ c.loop-expr.invariant

pub same_arms-returns-then-not-is_same : goal.same_arms-returns-then-not-is_same
same_arms-returns-then-not-is_same t c =
    let differ : (same c.arm-item.result.when c.in-Some.other.now.when && same c.arm-item.result.then c.in-Some.other.now.then) ≡ false = cc in
    arms_differ c.args.left.now c.loop-arm.rest.now c.in-Some.more.now c.loop-arm.arm-index c.arm-item.result c.in-Some.other.now _ c.loop-arm-test.true c.arm-item.is c.in-Some.ensures.cases.0 differ c.loop-arm.invariant
