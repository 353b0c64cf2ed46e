use Rattle.std.proofs.Common.{◌≡◌, drop}
use Rattle.std.specs.List.{flat_map}
use Rattle.cr_term.specs.Parts.{columns}
use Rattle.cr_questions.specs.Asked.{arm_columns, or_is_read, relations}
use Rattle.cr_questions.proofs.reads.+reads.Given as goal

abbrev pub invariant-or_any_reads-loop-expr : goal.invariant-or_any_reads-loop-expr
invariant-or_any_reads-loop-expr l =
    or_is_read (relations l.sources) l.name l.found (flat_map columns (drop l.expr-index l.exprs)) ≡ or_is_read (relations l.sources) l.name l.initial.found (flat_map columns l.exprs)

abbrev pub invariant-or_arm_reads-loop-arm : goal.invariant-or_arm_reads-loop-arm
invariant-or_arm_reads-loop-arm l =
    or_is_read (relations l.sources) l.name l.found (flat_map arm_columns (drop l.arm-index l.arms)) ≡ or_is_read (relations l.sources) l.name l.initial.found (flat_map arm_columns l.arms)
