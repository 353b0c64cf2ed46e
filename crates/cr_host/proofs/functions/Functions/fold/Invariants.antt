use Rattle.std.proofs.Common.{drop}
use Rattle.cr_host.proofs.Folding.{OfAggregate, HoldsSoFar}
use Rattle.cr_host.proofs.functions.Functions.fold.Given as goal

abbrev pub invariant-loop-row : goal.invariant-loop-row
invariant-loop-row g l = OfAggregate (g.Self.Functions.function_of l.self l.name l.count) (HoldsSoFar (g.Self.Functions.step l.self) l.rows l.held (drop l.row-index l.rows))
