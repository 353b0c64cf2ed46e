use Rattle.std.proofs.Common.{◌≡◌, map, take}
use Rattle.cr_build.specs.Parts.{arm_of}
use Rattle.cr_select.specs.Placed.{exprs_of, made}
use Rattle.cr_select.proofs.placed.+placed.Given as goal

abbrev pub invariant-placed_all-loop-expr : goal.invariant-placed_all-loop-expr
invariant-placed_all-loop-expr l = l.all.items ≡ map (made (exprs_of l.terms)) (take l.expr-index l.exprs)

abbrev pub invariant-placed_arms-loop-one : goal.invariant-placed_arms-loop-one
invariant-placed_arms-loop-one l = l.all.items ≡ map (λ w. arm_of l.operand (made (exprs_of l.terms) w.when) (made (exprs_of l.terms) w.then)) (take l.one-index l.arms)
