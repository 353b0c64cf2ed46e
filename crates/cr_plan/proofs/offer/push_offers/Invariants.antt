use Rattle.std.proofs.Common.{◌≡◌, ◌++◌, drop}
use Rattle.cr_plan.specs.Offers.{offers}
use Rattle.cr_plan.proofs.offer.push_offers.Given as goal

-- the offers so far and those of the terms that are left
abbrev pub invariant-loop-term : goal.invariant-loop-term
invariant-loop-term l = l.out.items ++ offers l.columns l.params (drop l.term-index l.terms) ≡ l.initial.out.items ++ offers l.columns l.params l.terms
