use Rattle.std.proofs.Common.{◌≡◌, Some, drop}
use Rattle.cr_bags.specs.Bags.{gather, joins}
use Rattle.cr_sought.specs.Sought.{keys_beside, keys_by}
use Rattle.cr_sought.proofs.joined.keys_by.Given as goal

-- the keys so far and those beside the rows that are left
abbrev pub invariant-loop-row : goal.invariant-loop-row
invariant-loop-row l =
    joins (Some l.keys.items)
    (gather (λ r. keys_beside l.lookup.base l.lookup.definition.now l.lookup.params.now l.lookup.terms.now (record { start = l.partner.start; row = r }))
    (drop l.row-index l.partner.rows))
    ≡ keys_by l.lookup.base l.lookup.definition.now l.lookup.params.now l.lookup.terms.now l.partner
