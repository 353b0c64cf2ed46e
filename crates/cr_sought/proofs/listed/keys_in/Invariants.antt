use Rattle.std.proofs.Common.{◌≡◌, Some, drop}
use Rattle.cr_bags.specs.Bags.{gather, joins}
use Rattle.cr_sought.specs.Lists.{keys_in}
use Rattle.cr_sought.specs.Sought.{alone, given, keys_told, pinned}
use Rattle.cr_sought.proofs.listed.keys_in.Given as goal

-- the keys so far and those of the values that are left
abbrev pub invariant-loop-value : goal.invariant-loop-value
invariant-loop-value l =
    joins (Some l.keys.items)
    (gather (λ v. keys_told (given l.listed.at v (pinned alone l.lookup.params.now l.lookup.terms.now)) l.lookup.base l.lookup.definition.now) (drop l.value-index l.value-items))
    ≡ keys_in l.lookup.base l.lookup.definition.now l.lookup.params.now l.lookup.terms.now (l.listed.at, l.listed.values.items)
