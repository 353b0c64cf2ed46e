use Rattle.std.proofs.Common.{◌≡◌, List, Option}
use Rattle.std.specs.Option.{ForSome}
use Rattle.cr_lattice.specs.declared.change.Change.{Change}
use Rattle.cr_query.specs.Query.{Row}
use Rattle.cr_scalar.specs.Host.{Host as Means, host}
use Rattle.cr_pushdown.specs.Passing.{passing}
use Rattle.cr_session.proofs.Passing.{found_there, some_found}
use Rattle.cr_session.proofs.session.Session.see_few.Goals as goal

pub returns-clause-finds : goal.returns-clause-finds
returns-clause-finds g c clean =
    let by : Means = host (g.F.Functions.function_of c.args.functions.now) (g.F.Functions.scalar c.args.functions.now) (g.F.Functions.step c.args.functions.now) (g.F.Functions.finish c.args.functions.now) (g.F.Functions.order_of c.args.functions.now) in
    found_there (λ (cs : List Change) (found : Option (List Row)). ForSome found (λ rows. rows ≡ passing by c.args.params.now c.args.terms.now c.args.def.now cs)) g.C.Cells.holding c.args.self.now c.self.inside.replica c.passing_rows.new.replica c.self.inside.pending c.self.view_is
    c.changes_of-changes.result.now c.passing_rows.result (rw (← c.self.view_is) at c.requires.sound (c.passing_rows.ensures.device.was_clean clean)) c.changes_of-changes.ensures (some_found _ _ _ _ c.passing_rows.result (c.passing_rows.ensures.reads clean))
