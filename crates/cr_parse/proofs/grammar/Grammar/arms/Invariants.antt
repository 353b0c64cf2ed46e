use Rattle.std.proofs.Common.{◌≡◌, ◌-◌, ◌<◌}
use Rattle.cr_tree.specs.Marks.{is_mark}
use Rattle.cr_tree.specs.declared.symbol.Mark.TheVariants as m
use Rattle.cr_tree.specs.Reading as spec
use Rattle.cr_parse.proofs.grammar.Grammar.arms.Given as goal

abbrev pub invariant-loop-turn : goal.invariant-loop-turn
invariant-loop-turn g l = record {
  low : l.height < l.self.limits.room;
  same : spec.many_from (is_mark m.When) (spec.arm l.self.limits (spec.rules_of l.self.limits)) spec.add_arm (l._turn-end - l._turn) (l.all, l.height) l.tokens
      ≡ spec.arms l.self.limits (spec.rules_of l.self.limits) l.fn.tokens;
}
