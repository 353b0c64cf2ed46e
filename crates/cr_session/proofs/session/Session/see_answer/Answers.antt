use Rattle.std.proofs.Common.{List, Option}
use Rattle.std.specs.Option.{ForSome}
use Rattle.cr_bags.specs.Bags.{single}
use Rattle.cr_lattice.specs.declared.change.Change.{Change}
use Rattle.cr_lattice.specs.Rows.{rows}
use Rattle.cr_exec.specs.Answers.{IsMeant}
use Rattle.cr_meaning.specs.View as view
use Rattle.cr_query.specs.Query.{Row, answer}
use Rattle.cr_scalar.specs.Host.{Host as Means, host}
use Rattle.cr_exec.specs.Combinations.{IsOfOneTable}
use Rattle.cr_session.proofs.Passing.{found_there}
use Rattle.cr_session.proofs.session.Session.see_answer.Goals as goal

pub returns-clause-finds : goal.returns-clause-finds
returns-clause-finds g c clean =
    let by : Means = host (g.F.Functions.function_of c.args.functions.now) (g.F.Functions.scalar c.args.functions.now) (g.F.Functions.step c.args.functions.now) (g.F.Functions.finish c.args.functions.now) (g.F.Functions.order_of c.args.functions.now) in
    let q = c.args.query.now in
    found_there (λ (cs : List Change) (o : Option (List Row)). ForSome o (λ found. IsOfOneTable q → IsMeant by c.args.params.now (λ m. answer m (view.query q) (single (rows cs c.args.def.now))) found)) g.C.Cells.holding c.args.self.now c.self.inside.replica c.answer_by_tallies.new.replica c.self.inside.pending c.self.view_is
    c.changes_of-changes.result.now c.answer_by_tallies.result (rw (← c.self.view_is) at c.requires.sound (c.answer_by_tallies.ensures.device.was_clean clean)) c.changes_of-changes.ensures (c.answer_by_tallies.ensures.reads clean)
