use Rattle.std.proofs.Common.{drop}
use Rattle.std.specs.List.{AllByRecursion}
use Rattle.cr_scalar.specs.Host.{host}
use Rattle.cr_tally.specs.Queries.{AreTrue}
use Rattle.cr_tally.proofs.answer.are_true.Given as goal

abbrev pub invariant-loop-row : goal.invariant-loop-row
invariant-loop-row g l =
    let P = AreTrue (host (g.F.Functions.function_of l.functions) (g.F.Functions.scalar l.functions) (g.F.Functions.step l.functions) (g.F.Functions.finish l.functions) (g.F.Functions.order_of l.functions)) l.params l.terms in
    AllByRecursion P (drop l.row-index l.rows) → AllByRecursion P l.rows
