use Rattle.std.proofs.Common.{◌≡◌, map, take}
use Rattle.cr_questions.specs.Questions.{left, left_order}
use Rattle.cr_questions.specs.Asked.{relations}
use Rattle.cr_allowed.proofs.query.left_terms.Given as goal

abbrev pub invariant-loop-term : goal.invariant-loop-term
invariant-loop-term g l = l.lefts.items ≡ map (left_order (left (g.G.Answering.answers l.guard) (relations l.sources))) (take l.term-index l.order)
