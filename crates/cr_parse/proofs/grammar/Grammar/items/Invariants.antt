use Rattle.std.proofs.Common.{◌≡◌, ◌-◌, ◌<◌}
use Rattle.cr_tree.specs.Marks.{is_mark}
use Rattle.cr_tree.specs.declared.symbol.Mark.TheVariants as m
use Rattle.cr_tree.specs.Reading as spec
use Rattle.cr_parse.proofs.grammar.Grammar.items.Given as goal

abbrev pub invariant-loop-turn : goal.invariant-loop-turn
invariant-loop-turn g l = record {
  low : l.height < l.self.limits.room;
  same : spec.many_from (is_mark m.Comma) (spec.behind m.Comma (spec.rules_of l.self.limits).argument) spec.add_item (l._turn-end - l._turn) (l.all, l.height) l.tokens
      ≡ spec.items l.self.limits (spec.rules_of l.self.limits) l.fn.tokens;
}
