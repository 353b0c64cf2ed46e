use Rattle.std.proofs.Common.{◌≡◌, drop}
use Rattle.cr_resolve.specs.Queries.{results_of}
use Rattle.cr_select.proofs.Star.{after}
use Rattle.cr_select.proofs.outputs.results_of.Given as goal

abbrev pub invariant-loop-tree : goal.invariant-loop-tree
invariant-loop-tree g l =
    after l.is_misplaced l.made (results_of (g.K.Naming.known l.known) l.sources (drop l.tree-index l.shown)) ≡ results_of (g.K.Naming.known l.known) l.sources l.shown
