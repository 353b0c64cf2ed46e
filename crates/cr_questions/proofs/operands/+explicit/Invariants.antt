use Rattle.std.proofs.Common.{◌≡◌, map, drop}
use Rattle.std.specs.Option.{option_copied, option_or}
use Rattle.cr_term.specs.Operands.{explicit_collation, first_of}
use Rattle.cr_questions.specs.Parts.{explicit_of_arm}
use Rattle.cr_questions.proofs.operands.+explicit.Given as goal

abbrev pub invariant-or_explicit_of_all-loop-expr : goal.invariant-or_explicit_of_all-loop-expr
invariant-or_explicit_of_all-loop-expr l =
    option_or (option_copied l.found) (first_of (map explicit_collation (drop l.expr-index l.exprs))) ≡ option_or (option_copied l.initial.found) (first_of (map explicit_collation l.exprs))

abbrev pub invariant-or_explicit_of_arms-loop-arm : goal.invariant-or_explicit_of_arms-loop-arm
invariant-or_explicit_of_arms-loop-arm l =
    option_or (option_copied l.found) (first_of (map explicit_of_arm (drop l.arm-index l.arms))) ≡ option_or (option_copied l.initial.found) (first_of (map explicit_of_arm l.arms))
