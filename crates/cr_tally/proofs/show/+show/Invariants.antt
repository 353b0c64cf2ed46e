use Rattle.std.proofs.Common.{take}
use Rattle.cr_tally.specs.Showing.{ShowsAll, ShowsArms}
use Rattle.cr_tally.proofs.show.+show.Given as goal

abbrev pub invariant-show_all-loop-expr : goal.invariant-show_all-loop-expr
invariant-show_all-loop-expr l = ShowsAll l.fn.calls.items l.calls.items (take l.expr-index l.exprs) l.out.items

abbrev pub invariant-show_arms-loop-arm : goal.invariant-show_arms-loop-arm
invariant-show_arms-loop-arm l = ShowsArms l.fn.calls.items l.calls.items (take l.arm-index l.arms) l.out.items
