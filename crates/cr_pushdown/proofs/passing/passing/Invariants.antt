use Rattle.std.proofs.Common.{◌≡◌}
use Rattle.std.specs.Prelude.{filter}
use Rattle.cr_scalar.specs.Host.{host}
use Rattle.cr_pushdown.specs.Passing.{passes}
use Rattle.cr_pushdown.proofs.passing.passing.Given as goal

abbrev pub invariant-loop-row : goal.invariant-loop-row
invariant-loop-row g l =
    let p = passes (host (g.F.Functions.function_of l.functions) (g.F.Functions.scalar l.functions) (g.F.Functions.step l.functions) (g.F.Functions.finish l.functions) (g.F.Functions.order_of l.functions)) l.params l.terms in
    l.out.items ≡ filter p l.yielded
