use Rattle.std.proofs.Common.{map, take}
use Rattle.cr_tally.specs.Showing.{ShowsAll}
use Rattle.cr_tally.proofs.over.shown_each.Given as goal

abbrev pub invariant-loop-expr : goal.invariant-loop-expr
invariant-loop-expr l = ShowsAll l.fn.calls.items l.calls.items (map (λ e. e.now) (take l.expr-index l.exprs)) l.out.items
