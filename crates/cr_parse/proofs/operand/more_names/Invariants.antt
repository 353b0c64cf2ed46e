use Rattle.std.proofs.Common.{◌≡◌, ◌-◌, [], ◌∷◌}
use Rattle.cr_tree.specs.Reading as spec
use Rattle.cr_parse.proofs.operand.more_names.Given as goal

abbrev pub invariant-loop-turn : goal.invariant-loop-turn
invariant-loop-turn l = record {
  same : spec.many_from spec.is_name spec.name spec.listed (l._turn-end - l._turn) l.all l.tokens ≡ spec.many spec.is_name spec.name spec.listed (l.fn.first ∷ []) l.fn.tokens;
}
