use Rattle.std.proofs.Common.{◌≡◌, ◌-◌, ◌≤◌}
use Rattle.cr_tree.specs.Reading as spec
use Rattle.cr_parse.proofs.grammar.Grammar.climb.Given as goal

abbrev pub invariant-loop-turn : goal.invariant-loop-turn
invariant-loop-turn g l = record {
  low : l.height ≤ l.self.limits.room;
  same : spec.climb l.self.limits (spec.rules_of l.self.limits) (l.self.limits.room - l._turn) l.least l.bound (l.tree, l.height) l.tokens
      ≡ spec.climb l.self.limits (spec.rules_of l.self.limits) l.self.limits.room l.least l.fn.most (l.fn.left, l.fn.start) l.fn.tokens;
}
