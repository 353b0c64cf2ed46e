use Rattle.std.proofs.Common.{◌≡◌, map, drop}
use Rattle.cr_term.specs.Operands.{own_collation, first_of}
use Rattle.cr_questions.proofs.operands.first_collation.Given as goal

abbrev pub invariant-loop-arg : goal.invariant-loop-arg
invariant-loop-arg l = first_of (map own_collation (drop l.arg-index l.args)) ≡ first_of (map own_collation l.args)
