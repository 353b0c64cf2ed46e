use Rattle.std.proofs.Common.{[], map}
use Rattle.cr_scalar.specs.Host.{host}
use Rattle.cr_exec.specs.Groups.{judged_by}
use Rattle.cr_exec.specs.Shows.{shown_of}
use Rattle.cr_exec.proofs.Grouping.{from_nothing}
use Rattle.cr_exec.proofs.grouped.show_all.Goals as goal

pub returns : goal.returns
returns g c =
    let h = host (g.F.Functions.function_of c.args.functions.now) (g.F.Functions.scalar c.args.functions.now) (g.F.Functions.step c.args.functions.now) (g.F.Functions.finish c.args.functions.now) (g.F.Functions.order_of c.args.functions.now) in
    from_nothing h c.args.params.now (λ m. judged_by m (λ e. m.over e (record { shown = []; members = c.args.combinations.now })) c.args.having.now c.args.results.now c.args.keys.now)
    c.new-out.result.items shown_of (map shown_of c.judge.new.out.items) c.new-out.ensures.items c.in_ok-judge.ensures
