use Rattle.std.proofs.Common.{◌≡◌, take}
use Rattle.cr_plan.specs.Offers.{offers}
use Rattle.cr_plan.proofs.Placing.{ons}
use Rattle.cr_plan.proofs.told.offers_of.Given as goal

-- the offers of the ONs so far
abbrev pub invariant-loop-table : goal.invariant-loop-table
invariant-loop-table l = l.offers.items ≡ offers l.columns l.params (ons (take l.table-index l.tables))
