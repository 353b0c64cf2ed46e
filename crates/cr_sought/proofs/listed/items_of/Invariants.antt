use Rattle.std.proofs.Common.{◌≡◌, Some, drop}
use Rattle.cr_bags.specs.Bags.{joins}
use Rattle.cr_sought.specs.Lists.{items_of}
use Rattle.cr_sought.proofs.listed.items_of.Given as goal

-- the values so far and those of the items that are left
abbrev pub invariant-loop-expr : goal.invariant-loop-expr
invariant-loop-expr l =
    joins (Some l.values.items) (items_of l.params l.adjusted (drop l.expr-index l.items)) ≡ items_of l.params l.adjusted l.items
