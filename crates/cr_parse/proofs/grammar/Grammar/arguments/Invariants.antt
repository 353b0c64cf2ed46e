use Rattle.std.proofs.Common.{◌≡◌, ◌-◌, ◌<◌}
use Rattle.cr_tree.specs.Reading as spec
use Rattle.cr_parse.proofs.Loops.{more_arguments}
use Rattle.cr_parse.proofs.grammar.Grammar.arguments.Given as goal

abbrev pub invariant-loop-turn : goal.invariant-loop-turn
invariant-loop-turn g l = record {
  low : l.height < l.self.limits.room;
  same : more_arguments l.self.limits (l.self.limits.commas - l._turn) (l.all, l.height) l.tokens ≡ spec.arguments l.self.limits (spec.rules_of l.self.limits) l.fn.tokens;
}
