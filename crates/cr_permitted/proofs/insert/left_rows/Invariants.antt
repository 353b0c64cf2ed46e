use Rattle.std.proofs.Common.{◌≡◌, [], map, take}
use Rattle.cr_questions.specs.Questions.{left}
use Rattle.cr_permitted.proofs.insert.left_rows.Given as goal

abbrev pub invariant-loop-row : goal.invariant-loop-row
invariant-loop-row g l = l.lefts.items ≡ map (map (left (g.G.Answering.answers l.guard) [])) (take l.row-index l.rows)
