use Rattle.std.proofs.Common.{◌≡◌, List, [], map, take}
use Rattle.cr_value.specs.declared.value.Value.{Value}
use Rattle.cr_scalar.specs.Host.{host}
use Rattle.cr_tally.specs.Tallies.{TellAll}
use Rattle.cr_tally.proofs.tallies.tallies_of.Given as goal

abbrev pub invariant-loop-call : goal.invariant-loop-call
invariant-loop-call g l =
    (map (λ t. t.call) l.out.items ≡ take l.call-index l.calls)
    × ((params : List Value) → TellAll (host (g.F.Functions.function_of l.functions) (g.F.Functions.scalar l.functions) (g.F.Functions.step l.functions) (g.F.Functions.finish l.functions) (g.F.Functions.order_of l.functions)) params [] l.out.items)
