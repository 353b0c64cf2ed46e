use Rattle.std.specs.List.{AllZip}
use Rattle.cr_scalar.specs.Host.{host}
use Rattle.cr_tally.specs.Tallies.{Step}
use Rattle.cr_tally.proofs.tallies.with_rows.Given as goal

abbrev pub invariant-loop-tally : goal.invariant-loop-tally
invariant-loop-tally g l =
    AllZip (Step (host (g.F.Functions.function_of l.functions) (g.F.Functions.scalar l.functions) (g.F.Functions.step l.functions) (g.F.Functions.finish l.functions) (g.F.Functions.order_of l.functions)) l.params l.rows)
    l.yielded l.out.items
