use Rattle.std.proofs.Common.{rules, ◌+◌, length, drop, Err}
use Rattle.std.proofs.lemmas.Iterator.Adapters.{YieldsList-from_vec}
use Rattle.std.proofs.lemmas.Iterator.Consumers.{YieldsList-turn, YieldsList-so_far}
use Rattle.cr_resolve.specs.Cases.{ArmsMeet}
use Rattle.cr_resolve.proofs.Cases.{arm_refused, one_at, arms_told}
use Rattle.cr_resolve.proofs.case.meet_arms.Goals as goal

pub returns-in_err-met : goal.returns-in_err-met
returns-in_err-met g c =
    let all = YieldsList-from_vec {s = c.into_iter-arm-iterator.result} c.args.pairs.items (search rules) (search rules) in
    let turn = YieldsList-turn all c.loop-arm.yielded _ c.loop-arm.yielded_by _ c.next.new.self c.in-Some.arm c.in-Some.is c.next.ensures.steps in
    let so_far = YieldsList-so_far all c.loop-arm.yielded _ c.loop-arm.yielded_by in
    let why : ArmsMeet (g.K.Naming.known c.args.known.now) c.args.operand.now c.args.pairs.items (Err c.in_err-met.field-0.0) =
    arm_refused (g.K.Naming.known c.args.known.now) c.args.operand.now c.loop-arm.yielded c.in-Some.arm (drop (length c.loop-arm.yielded + 1) c.args.pairs.items) c.args.pairs.items c.loop-arm.arms c.in_err-met.field-0.0
    c.loop-arm.invariant c.in_err-met.ensures (one_at c.loop-arm.yielded c.args.pairs.items c.in-Some.arm so_far turn.0 turn.1) in
    arms_told (g.K.Naming.known c.args.known.now) c.args.operand.now c.args.pairs.items c.from_residual.result c.in_err-met.field-0.0 c.from_residual.ensures.1 why
