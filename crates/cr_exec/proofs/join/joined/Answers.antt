use Rattle.std.proofs.Common.{◌∙◌, ap, map, rules}
use Rattle.cr_scalar.specs.Host.{host}
use Rattle.cr_query.specs.Query.{joined}
use Rattle.cr_meaning.specs.View.{query}
use Rattle.cr_exec.specs.Answers.{Faults}
use Rattle.cr_exec.specs.LookUps.{joined_rows}
use Rattle.cr_exec.specs.Scopes.{there}
use Rattle.cr_exec.proofs.LeftOut.{sources_fault, sources_both}
use Rattle.cr_exec.proofs.join.joined.Goals as goal

pub returns-in_err-join_rest : goal.returns-in_err-join_rest
returns-in_err-join_rest g c =
    let h = host (g.F.Functions.function_of c.args.functions.now) (g.F.Functions.scalar c.args.functions.now) (g.F.Functions.step c.args.functions.now) (g.F.Functions.finish c.args.functions.now) (g.F.Functions.order_of c.args.functions.now) in
    let why : Faults h c.args.params.now (λ m. joined m (query c.args.query.now) c.args.tables.now) c.in_err-join_rest.field-0.0 =
    sources_fault h c.args.params.now c.args.query.now c.args.tables.now c.as_slice.result.now c.as_slice-terms.result.now c.as_slice-joined.result.now (ap (map there) c.as_slice-terms.ensures.value ∙ c.in_ok-terms.ensures) c.as_slice-joined.ensures
    (ap (map joined_rows) c.as_slice.ensures.value ∙ c.in_ok-sources.ensures.sources) c.in_err-join_rest.field-0.0 c.in_err-join_rest.ensures in
    search rules

pub returns : goal.returns
returns g c =
    let h = host (g.F.Functions.function_of c.args.functions.now) (g.F.Functions.scalar c.args.functions.now) (g.F.Functions.step c.args.functions.now) (g.F.Functions.finish c.args.functions.now) (g.F.Functions.order_of c.args.functions.now) in
    sources_both h c.args.params.now c.args.query.now c.args.tables.now c.as_slice.result.now c.as_slice-terms.result.now c.as_slice-joined.result.now (ap (map there) c.as_slice-terms.ensures.value ∙ c.in_ok-terms.ensures) c.as_slice-joined.ensures
    (ap (map joined_rows) c.as_slice.ensures.value ∙ c.in_ok-sources.ensures.sources) c.new-out.result.items c.join_rest.new.out.items c.new-out.ensures.items c.in_ok-join_rest.ensures
