use Rattle.cr_sought.proofs.Answers.{answers_above}
use Rattle.cr_sought.proofs.laws.answers_above.Goals as goal

pub returns : goal.returns
returns c = answers_above
