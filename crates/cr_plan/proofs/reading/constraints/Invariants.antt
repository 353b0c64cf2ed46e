use Rattle.std.proofs.Common.{◌≡◌, take}
use Rattle.cr_plan.specs.Offers.{constraints}
use Rattle.cr_plan.proofs.reading.constraints.Given as goal

abbrev pub invariant-loop-offer : goal.invariant-loop-offer
invariant-loop-offer l = l.constraints.items ≡ constraints (take l.offer-index l.offers)
