use Rattle.std.proofs.Common.{to_z-of_z}
use Rattle.embedding.proofs.offering.ObservedModule.filter.Goals as goal

-- a reading of the counted table is one of the table
pub returns-clause-filtered : goal.returns-clause-filtered
returns-clause-filtered c = simp (to_z-of_z, c.ranges.index) at c.filter.ensures.filtered
