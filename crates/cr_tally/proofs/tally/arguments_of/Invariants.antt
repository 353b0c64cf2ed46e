use Rattle.std.proofs.Common.{take}
use Rattle.std.specs.List.{AllByRecursion, AllZip}
use Rattle.cr_scalar.specs.Host.{host}
use Rattle.cr_tally.specs.Tallies.{AreArguments, IsAlone}
use Rattle.cr_tally.proofs.tally.arguments_of.Given as goal

abbrev pub invariant-loop-row : goal.invariant-loop-row
invariant-loop-row g l =
    AllByRecursion IsAlone l.args
    → AllZip (AreArguments (host (g.F.Functions.function_of l.functions) (g.F.Functions.scalar l.functions) (g.F.Functions.step l.functions) (g.F.Functions.finish l.functions) (g.F.Functions.order_of l.functions)) l.params l.args)
    (take l.row-index l.rows) l.out.items
