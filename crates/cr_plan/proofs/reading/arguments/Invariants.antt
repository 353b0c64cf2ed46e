use Rattle.std.proofs.Common.{◌≡◌, map, take}
use Rattle.cr_plan.specs.Offers.{argument_of}
use Rattle.cr_plan.proofs.reading.arguments.Given as goal

abbrev pub invariant-loop-argument : goal.invariant-loop-argument
invariant-loop-argument l = l.values.items ≡ map (argument_of l.offers) (take l.argument-index l.argument-items)
