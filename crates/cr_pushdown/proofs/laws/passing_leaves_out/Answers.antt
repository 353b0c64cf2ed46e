use Rattle.cr_pushdown.proofs.Answers.{passing_leaves_out}
use Rattle.cr_pushdown.proofs.laws.passing_leaves_out.Goals as goal

pub returns : goal.returns
returns c = passing_leaves_out
