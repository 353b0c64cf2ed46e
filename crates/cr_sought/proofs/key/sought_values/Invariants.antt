use Rattle.std.proofs.Common.{◌≡◌, ◌-◌, Some, drop}
use Rattle.cr_delta.specs.Key.{key_places}
use Rattle.cr_bags.specs.Bags.{gather, joins}
use Rattle.cr_sought.specs.Sought.{sought_part, sought_values, tells}
use Rattle.cr_sought.proofs.key.sought_values.Given as goal

-- the values so far and those of the places that are left
abbrev pub invariant-loop-place : goal.invariant-loop-place
invariant-loop-place l =
    joins (Some l.values.items) (gather (sought_part (tells l.telling) l.base l.definition) (drop (l.place - 1) key_places))
    ≡ sought_values (tells l.telling) l.base l.definition
