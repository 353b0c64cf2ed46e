use Rattle.std.proofs.Common.{List, [], subst, sym}
use Rattle.cr_lattice.specs.Keep.{join}
use Rattle.cr_lattice.specs.Rows.{rows}
use Rattle.cr_cells.specs.Holding.{kept_of}
use Rattle.cr_query.specs.Query.{Row}
use Rattle.cr_scalar.specs.Host.{Host as Means, host}
use Rattle.cr_tally.specs.declared.show.Call.{Call}
use Rattle.cr_tally.specs.Over.{ShowsQuery}
use Rattle.cr_tally.proofs.Whole.{answers_both, read_so}
use Rattle.cr_tally.proofs.answer.answer_by_tallies.Goals as goal

pub returns-clause-reads : goal.returns-clause-reads
returns-clause-reads g c clean =
    let by : Means = host (g.F.Functions.function_of c.args.functions.now) (g.F.Functions.scalar c.args.functions.now) (g.F.Functions.step c.args.functions.now) (g.F.Functions.finish c.args.functions.now) (g.F.Functions.order_of c.args.functions.now) in
    let q = c.args.query.now in
    let all : List Row = rows (join (kept_of (g.C.Cells.holding c.args.replica.now)) c.args.changes.now) c.args.def.now in
    let kept = g.C.Cells.holding c.args.replica.now in
    let o = c.in_ok-over.over in
    let shows = subst (λ (cs : List Call). ShowsQuery [] cs q o) (sym c.as_slice-calls.ensures.value) (subst (λ (old : List Call). ShowsQuery old c.over_group.new.calls.items q o) c.new-calls.ensures.items c.in_ok-over.ensures) in
    read_so _ _ kept _ c.answer_over.result (λ x told one. answers_both by c.args.params.now q one (c.has_one_group.ensures c.if-not-has_one_group.false) all o c.as_slice-calls.result.now x shows told) (c.answer_over.ensures.reads clean)
