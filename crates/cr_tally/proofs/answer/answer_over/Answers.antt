use Rattle.std.proofs.Common.{◌∙◌, List, subst}
use Rattle.cr_lattice.specs.Keep.{join}
use Rattle.cr_cells.specs.Holding.{kept_of}
use Rattle.cr_term.specs.declared.expr.Expr.{Expr}
use Rattle.cr_scalar.specs.Host.{Host as Means, host}
use Rattle.cr_pushdown.specs.Passing.{passing}
use Rattle.cr_tally.specs.Queries.{TellsOf}
use Rattle.cr_tally.proofs.answer.answer_over.Goals as goal

pub returns-in_ok-answer_of-in-Ok-Some-clause-reads : goal.returns-in_ok-answer_of-in-Ok-Some-clause-reads
returns-in_ok-answer_of-in-Ok-Some-clause-reads g c clean =
    let by : Means = host (g.F.Functions.function_of c.args.functions.now) (g.F.Functions.scalar c.args.functions.now) (g.F.Functions.step c.args.functions.now) (g.F.Functions.finish c.args.functions.now) (g.F.Functions.order_of c.args.functions.now) in
    let params = c.args.params.now in
    let read = c.in-Ok-Some.ensures.reads clean in
    let begin = c.in_ok-tallies.ensures c.in-Some.tallies c.in-Some.is in
    let told = subst (λ (terms : List Expr). TellsOf by params terms c.in-Some.tallies.items (passing by params terms c.args.def.now (join (kept_of (g.C.Cells.holding c.args.replica.now)) c.args.changes.now)) c.in-Ok-Some.tallies.items) c.as_slice-terms.ensures
    (read.answers c.in-Ok-Some.tallies c.in-Ok-Some.field-0-is) in
    record {
      same = read.same;
      answers = λ x is. record {
        are_true = told.are_true;
        told = c.in-Ok-Some.tallies.items;
        of = told.tells.same ∙ begin.0;
        tells = told.tells.tells (begin.1 params);
        finishes = c.in_ok-answer_of-in-Ok-Some.ensures x is;
      };
    }
