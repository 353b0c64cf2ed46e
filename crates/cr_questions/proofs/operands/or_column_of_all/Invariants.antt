use Rattle.std.proofs.Common.{◌≡◌, map, drop}
use Rattle.std.specs.Option.{option_copied, option_or}
use Rattle.cr_term.specs.Operands.{column_collation, first_of}
use Rattle.cr_questions.proofs.operands.or_column_of_all.Given as goal

abbrev pub invariant-loop-expr : goal.invariant-loop-expr
invariant-loop-expr l =
    option_or (option_copied l.found) (first_of (map column_collation (drop l.expr-index l.exprs))) ≡ option_or (option_copied l.initial.found) (first_of (map column_collation l.exprs))
