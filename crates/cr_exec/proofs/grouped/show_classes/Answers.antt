use Rattle.std.proofs.Common.{map, rules}
use Rattle.cr_scalar.specs.Host.{host}
use Rattle.cr_bags.specs.Bags.{gather}
use Rattle.cr_exec.specs.Answers.{Faults}
use Rattle.cr_exec.specs.Comparisons.{held_order}
use Rattle.cr_exec.specs.Groups.{judged_by, pair_of, group_of}
use Rattle.cr_exec.specs.Shows.{shown_of}
use Rattle.cr_exec.proofs.Loops.{gather_ends, gather_next, gather_fails}
use Rattle.cr_exec.proofs.grouped.show_classes.Goals as goal

pub returns-in_err-show_class : goal.returns-in_err-show_class
returns-in_err-show_class g c =
    let h = host (g.F.Functions.function_of c.args.functions.now) (g.F.Functions.scalar c.args.functions.now) (g.F.Functions.step c.args.functions.now) (g.F.Functions.finish c.args.functions.now) (g.F.Functions.order_of c.args.functions.now) in
    let why : Faults h c.args.params.now (λ m. gather (λ k. judged_by m (λ e. m.over e (group_of (map (held_order (g.F.Functions.order_at c.args.functions.now)) c.args.senses.now) (map pair_of c.args.keyed.now) k)) c.args.having.now c.args.results.now c.args.keys.now) c.args.classes.now) c.in_err-show_class.field-0.0 =
    gather_fails h c.args.params.now (λ m k. judged_by m (λ e. m.over e (group_of (map (held_order (g.F.Functions.order_at c.args.functions.now)) c.args.senses.now) (map pair_of c.args.keyed.now) k)) c.args.having.now c.args.results.now c.args.keys.now) (λ m. gather (λ k. judged_by m (λ e. m.over e (group_of (map (held_order (g.F.Functions.order_at c.args.functions.now)) c.args.senses.now) (map pair_of c.args.keyed.now) k)) c.args.having.now c.args.results.now c.args.keys.now) c.args.classes.now) c.args.classes.now c.loop-class.class-index c.class-item.result (map shown_of c.loop-class.out.items) c.in_err-show_class.field-0.0 c.loop-class-test.true c.class-item.is
    c.in_err-show_class.ensures
    c.loop-class.invariant in
    search rules

pub loop-class-preserved : goal.loop-class-preserved
loop-class-preserved g c =
    let h = host (g.F.Functions.function_of c.args.functions.now) (g.F.Functions.scalar c.args.functions.now) (g.F.Functions.step c.args.functions.now) (g.F.Functions.finish c.args.functions.now) (g.F.Functions.order_of c.args.functions.now) in
    gather_next h c.args.params.now (λ m k. judged_by m (λ e. m.over e (group_of (map (held_order (g.F.Functions.order_at c.args.functions.now)) c.args.senses.now) (map pair_of c.args.keyed.now) k)) c.args.having.now c.args.results.now c.args.keys.now) (λ m. gather (λ k. judged_by m (λ e. m.over e (group_of (map (held_order (g.F.Functions.order_at c.args.functions.now)) c.args.senses.now) (map pair_of c.args.keyed.now) k)) c.args.having.now c.args.results.now c.args.keys.now) c.args.classes.now) c.args.classes.now c.loop-class.class-index c.class-item.result (map shown_of c.loop-class.out.items) (map shown_of c.show_class.new.out.items) c.loop-class-test.true c.class-item.is
    c.in_ok-show_class.ensures
    c.loop-class.invariant

pub returns : goal.returns
returns g c =
    let h = host (g.F.Functions.function_of c.args.functions.now) (g.F.Functions.scalar c.args.functions.now) (g.F.Functions.step c.args.functions.now) (g.F.Functions.finish c.args.functions.now) (g.F.Functions.order_of c.args.functions.now) in
    gather_ends h c.args.params.now (λ m k. judged_by m (λ e. m.over e (group_of (map (held_order (g.F.Functions.order_at c.args.functions.now)) c.args.senses.now) (map pair_of c.args.keyed.now) k)) c.args.having.now c.args.results.now c.args.keys.now) (λ m. gather (λ k. judged_by m (λ e. m.over e (group_of (map (held_order (g.F.Functions.order_at c.args.functions.now)) c.args.senses.now) (map pair_of c.args.keyed.now) k)) c.args.having.now c.args.results.now c.args.keys.now) c.args.classes.now) c.args.classes.now c.loop-class.class-index (map shown_of c.loop-class.out.items) c.loop-class-test.false c.loop-class.invariant
