use Rattle.std.proofs.Common.{◌≡◌, drop, map}
use Rattle.cr_resolve.specs.Trees.{all, casts}
use Rattle.cr_resolved.specs.Casts.{or_outside, arm_casts}
use Rattle.cr_resolved.proofs.casts.+casts.Given as goal

abbrev pub invariant-or_any_casts-loop-tree : goal.invariant-or_any_casts-loop-tree
invariant-or_any_casts-loop-tree l = or_outside l.found (all (map casts (drop l.tree-index l.trees))) ≡ or_outside l.initial.found (all (map casts l.trees))

abbrev pub invariant-or_arm_casts-loop-arm : goal.invariant-or_arm_casts-loop-arm
invariant-or_arm_casts-loop-arm l = or_outside l.found (all (map arm_casts (drop l.arm-index l.arms))) ≡ or_outside l.initial.found (all (map arm_casts l.arms))
