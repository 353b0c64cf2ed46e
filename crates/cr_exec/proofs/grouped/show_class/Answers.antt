use Rattle.std.proofs.Common.{◌∙◌, List, subst, map}
use Rattle.cr_scalar.specs.Host.{host}
use Rattle.cr_query.specs.Query.{Row}
use Rattle.cr_exec.specs.Answers.{Adds}
use Rattle.cr_exec.specs.Comparisons.{held_order}
use Rattle.cr_exec.specs.Groups.{judged_by, pair_of, members_of}
use Rattle.cr_exec.specs.Shows.{shown_of}
use Rattle.cr_exec.proofs.grouped.show_class.Goals as goal

pub returns : goal.returns
returns g c =
    let h = host (g.F.Functions.function_of c.args.functions.now) (g.F.Functions.scalar c.args.functions.now) (g.F.Functions.step c.args.functions.now) (g.F.Functions.finish c.args.functions.now) (g.F.Functions.order_of c.args.functions.now) in
    let adds = λ (k : Row) (ms : List Row). Adds h c.args.params.now (λ m. judged_by m (λ e. m.over e (record { shown = k; members = ms })) c.args.having.now c.args.results.now c.args.keys.now) (map shown_of c.args.out.now.items) (map shown_of c.judge.new.out.items) c.judge.result in
    subst (λ k. adds k (members_of (map (held_order (g.F.Functions.order_at c.args.functions.now)) c.args.senses.now) (map pair_of c.args.keyed.now) c.args.class.now)) c.as_slice.ensures
    (subst (adds c.as_slice.result.now) (c.as_slice-2.ensures.value ∙ c.in_ok-members.ensures) c.judge.ensures)
