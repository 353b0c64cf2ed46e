use Rattle.std.proofs.Common.{drop}
use Rattle.cr_resolve.specs.Cases.{arms_read}
use Rattle.cr_resolve.proofs.PartLists.{LeftToRead, ArmsLeft}
use Rattle.cr_resolve.proofs.expressions.+expr.Given as goal

abbrev pub invariant-exprs_at-loop-tree : goal.invariant-exprs_at-loop-tree
invariant-exprs_at-loop-tree g l = LeftToRead (g.K.Naming.known l.known) l.place.sources.now l.place.may_aggregate l.exprs (drop l.tree-index l.trees) l.trees

abbrev pub invariant-arms_at-loop-tree : goal.invariant-arms_at-loop-tree
invariant-arms_at-loop-tree g l = ArmsLeft (g.K.Naming.known l.known) l.place.sources.now l.place.may_aggregate (arms_read l.arms) (drop l.tree-index l.trees) l.trees
