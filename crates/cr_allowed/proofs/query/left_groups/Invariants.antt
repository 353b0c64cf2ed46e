use Rattle.std.proofs.Common.{◌≡◌, map, take}
use Rattle.cr_questions.specs.Questions.{left}
use Rattle.cr_questions.specs.Asked.{relations}
use Rattle.cr_allowed.proofs.query.left_groups.Given as goal

abbrev pub invariant-loop-group : goal.invariant-loop-group
invariant-loop-group g l = l.lefts.items ≡ map (λ t. record { expr = left (g.G.Answering.answers l.guard) (relations l.sources) t.expr; collation = t.collation }) (take l.group-index l.groups)
