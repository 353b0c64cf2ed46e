use Rattle.std.proofs.Common.{◌≡◌, map, take}
use Rattle.cr_questions.specs.Questions.{left, result_column}
use Rattle.cr_questions.specs.Asked.{relations}
use Rattle.cr_allowed.proofs.query.left_results.Given as goal

abbrev pub invariant-loop-column : goal.invariant-loop-column
invariant-loop-column g l = l.lefts.items ≡ map (λ r. result_column (left (g.G.Answering.answers l.guard) (relations l.sources) r.expr)) (take l.column-index l.results)
