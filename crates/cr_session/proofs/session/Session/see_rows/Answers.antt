use Rattle.std.proofs.Common.{◌≡◌, List, [], rules, sym, true}
use Rattle.cr_query.specs.Query.{Row}
use Rattle.cr_scalar.specs.Host.{Host as Means, host}
use Rattle.cr_pushdown.specs.Passing.{passing}
use Rattle.cr_world.specs.State.{now}
use Rattle.cr_session.specs.Joining.{IsFoundIn}
use Rattle.cr_session.specs.Sessions.{standing}
use Rattle.cr_session.proofs.Joins.{finds_for, found_whole}
use Rattle.cr_session.proofs.session.Session.see_rows.Goals as goal

pub returns-in-None-clause-finds : goal.returns-in-None-clause-finds
returns-in-None-clause-finds g c = λ clean.
    let by : Means = host (g.F.Functions.function_of c.args.functions.now) (g.F.Functions.scalar c.args.functions.now) (g.F.Functions.step c.args.functions.now) (g.F.Functions.finish c.args.functions.now) (g.F.Functions.order_of c.args.functions.now) in
    let st = standing g.C.Cells.holding c.args.self.now in
    let name = c.as_str-name.result.now in
    let table = c.in-Some.table.now in
    let is_replicated : table.is_replicated ≡ true = search rules in
    finds_for (λ (rows : List Row). rows ≡ passing by c.args.params.now [] table.definition (now st))
    (IsFoundIn c.args.params.now st c.args.tables.now c.args.query.now c.args.joined.now c.args.base c.args.partners.now) _ _ c.see_passing.result
    (λ rows is. found_whole by c.args.params.now st c.args.query.now c.args.joined.now c.args.base c.args.partners.now c.args.tables.now name table
    c.as_str-name.ensures.value (sym c.in-Some.ensures) is_replicated rows is)
    (c.see_passing.ensures.finds clean)
