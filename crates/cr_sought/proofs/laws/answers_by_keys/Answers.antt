use Rattle.cr_sought.proofs.Answers.{answers_by_keys}
use Rattle.cr_sought.proofs.laws.answers_by_keys.Goals as goal

pub returns : goal.returns
returns c = answers_by_keys
