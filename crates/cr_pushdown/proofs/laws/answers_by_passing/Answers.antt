use Rattle.cr_pushdown.proofs.Answers.{answers_by_passing}
use Rattle.cr_pushdown.proofs.laws.answers_by_passing.Goals as goal

pub returns : goal.returns
returns c = answers_by_passing
