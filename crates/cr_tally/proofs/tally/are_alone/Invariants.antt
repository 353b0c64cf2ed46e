use Rattle.std.proofs.Common.{drop}
use Rattle.std.specs.List.{AllByRecursion}
use Rattle.cr_tally.specs.Tallies.{IsAlone}
use Rattle.cr_tally.proofs.tally.are_alone.Given as goal

abbrev pub invariant-loop-expr : goal.invariant-loop-expr
invariant-loop-expr l = AllByRecursion IsAlone (drop l.expr-index l.exprs) → AllByRecursion IsAlone l.exprs
