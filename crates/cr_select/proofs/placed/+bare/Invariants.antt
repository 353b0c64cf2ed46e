use Rattle.std.proofs.Common.{◌≡◌, drop}
use Rattle.std.specs.List.{flat_map}
use Rattle.cr_select.specs.Placed.{exprs_of, bares, arm_bares, or_bare}
use Rattle.cr_select.proofs.placed.+bare.Given as goal

abbrev pub invariant-or_any_bare-loop-expr : goal.invariant-or_any_bare-loop-expr
invariant-or_any_bare-loop-expr l = or_bare l.found (flat_map (bares (exprs_of l.terms)) (drop l.expr-index l.exprs)) ≡ or_bare l.initial.found (flat_map (bares (exprs_of l.terms)) l.exprs)

abbrev pub invariant-or_arm_bare-loop-arm : goal.invariant-or_arm_bare-loop-arm
invariant-or_arm_bare-loop-arm l = or_bare l.found (flat_map (arm_bares (exprs_of l.terms)) (drop l.arm-index l.arms)) ≡ or_bare l.initial.found (flat_map (arm_bares (exprs_of l.terms)) l.arms)
