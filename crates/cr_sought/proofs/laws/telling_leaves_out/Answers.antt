use Rattle.cr_sought.proofs.Answers.{telling_leaves_out}
use Rattle.cr_sought.proofs.laws.telling_leaves_out.Goals as goal

pub returns : goal.returns
returns c = telling_leaves_out
