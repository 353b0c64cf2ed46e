use Rattle.std.proofs.Common.{◌≡◌, drop}
use Rattle.std.specs.List.{flat_map}
use Rattle.cr_term.specs.Parts.{aggregates}
use Rattle.cr_select.specs.Aggregates.{or_any, arm_aggregates}
use Rattle.cr_select.proofs.aggregates.+aggregates.Given as goal

abbrev pub invariant-or_any_aggregates-loop-expr : goal.invariant-or_any_aggregates-loop-expr
invariant-or_any_aggregates-loop-expr l = or_any l.found (flat_map aggregates (drop l.expr-index l.exprs)) ≡ or_any l.initial.found (flat_map aggregates l.exprs)

abbrev pub invariant-or_arm_aggregates-loop-arm : goal.invariant-or_arm_aggregates-loop-arm
invariant-or_arm_aggregates-loop-arm l = or_any l.found (flat_map arm_aggregates (drop l.arm-index l.arms)) ≡ or_any l.initial.found (flat_map arm_aggregates l.arms)
