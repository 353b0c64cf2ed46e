use Rattle.std.proofs.Common.{◌≡◌, drop, map}
use Rattle.cr_resolve.specs.Trees.{all, params}
use Rattle.cr_resolved.specs.Fits.{seen_with, arm_params}
use Rattle.cr_resolved.proofs.fits.+params.Given as goal

abbrev pub invariant-with_trees-loop-tree : goal.invariant-with_trees-loop-tree
invariant-with_trees-loop-tree l = seen_with l.seen (all (map params (drop l.tree-index l.trees))) ≡ seen_with l.initial.seen (all (map params l.trees))

abbrev pub invariant-with_arms-loop-arm : goal.invariant-with_arms-loop-arm
invariant-with_arms-loop-arm l = seen_with l.seen (all (map arm_params (drop l.arm-index l.arms))) ≡ seen_with l.initial.seen (all (map arm_params l.arms))
