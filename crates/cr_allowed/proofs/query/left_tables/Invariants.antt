use Rattle.std.proofs.Common.{◌≡◌, map, take}
use Rattle.cr_questions.specs.Questions.{left, left_joined}
use Rattle.cr_questions.specs.Asked.{relations}
use Rattle.cr_allowed.proofs.query.left_tables.Given as goal

abbrev pub invariant-loop-table : goal.invariant-loop-table
invariant-loop-table g l = l.lefts.items ≡ map (left_joined (left (g.G.Answering.answers l.guard) (relations l.sources))) (take l.table-index l.joined)
