use Rattle.std.proofs.Common.{◌∙◌, ap, map, option_map, rules}
use Rattle.std.proofs.lemmas.List.{map-append}
use Rattle.cr_scalar.specs.Host.{host}
use Rattle.cr_bags.specs.Bags.{each, single}
use Rattle.cr_exec.specs.Answers.{Faults}
use Rattle.cr_exec.specs.Groups.{keyed_by, pair_of}
use Rattle.cr_exec.proofs.Loops.{gather_ends, gather_next, gather_fails, one_behind, none_single}
use Rattle.cr_exec.proofs.ByClass.{keyed_both, keyed_fault}
use Rattle.cr_exec.proofs.group.with_keys.Goals as goal

pub returns-in_err-key : goal.returns-in_err-key
returns-in_err-key g c =
    let h = host (g.F.Functions.function_of c.args.functions.now) (g.F.Functions.scalar c.args.functions.now) (g.F.Functions.step c.args.functions.now) (g.F.Functions.finish c.args.functions.now) (g.F.Functions.order_of c.args.functions.now) in
    let why : Faults h c.args.params.now (λ m. each (keyed_by m c.args.exprs.now) c.args.combinations.now) c.in_err-key.field-0.0 =
    gather_fails h c.args.params.now (λ m d. option_map single (keyed_by m c.args.exprs.now d)) (λ m. each (keyed_by m c.args.exprs.now) c.args.combinations.now) c.args.combinations.now c.loop-combination.combination-index c.combination-item.result (map pair_of c.loop-combination.out.items) c.in_err-key.field-0.0 c.loop-combination-test.true c.combination-item.is
    (none_single h c.args.params.now (λ m. keyed_by m c.args.exprs.now c.combination-item.result) c.in_err-key.field-0.0 (keyed_fault h c.args.params.now c.args.exprs.now c.as_slice.result.now c.combination-item.result c.in_err-key.field-0.0 c.as_slice.ensures c.in_err-key.ensures))
    c.loop-combination.invariant in
    search rules

pub loop-combination-preserved : goal.loop-combination-preserved
loop-combination-preserved g c =
    let h = host (g.F.Functions.function_of c.args.functions.now) (g.F.Functions.scalar c.args.functions.now) (g.F.Functions.step c.args.functions.now) (g.F.Functions.finish c.args.functions.now) (g.F.Functions.order_of c.args.functions.now) in
    gather_next h c.args.params.now (λ m d. option_map single (keyed_by m c.args.exprs.now d)) (λ m. each (keyed_by m c.args.exprs.now) c.args.combinations.now) c.args.combinations.now c.loop-combination.combination-index c.combination-item.result (map pair_of c.loop-combination.out.items) (map pair_of c.push.new.out.items) c.loop-combination-test.true c.combination-item.is
    (one_behind h c.args.params.now (λ m. keyed_by m c.args.exprs.now c.combination-item.result) (c.in_ok-key.key, c.combination-item.result) (map pair_of c.loop-combination.out.items) (map pair_of c.push.new.out.items)
    (ap (map pair_of) c.in_ok-push.ensures.puts ∙ map-append pair_of c.loop-combination.out.items _)
    (keyed_both h c.args.params.now c.args.exprs.now c.as_slice.result.now c.combination-item.result c.in_ok-key.key c.as_slice.ensures c.in_ok-key.ensures))
    c.loop-combination.invariant

pub returns : goal.returns
returns g c =
    let h = host (g.F.Functions.function_of c.args.functions.now) (g.F.Functions.scalar c.args.functions.now) (g.F.Functions.step c.args.functions.now) (g.F.Functions.finish c.args.functions.now) (g.F.Functions.order_of c.args.functions.now) in
    gather_ends h c.args.params.now (λ m d. option_map single (keyed_by m c.args.exprs.now d)) (λ m. each (keyed_by m c.args.exprs.now) c.args.combinations.now) c.args.combinations.now c.loop-combination.combination-index (map pair_of c.loop-combination.out.items) c.loop-combination-test.false c.loop-combination.invariant
