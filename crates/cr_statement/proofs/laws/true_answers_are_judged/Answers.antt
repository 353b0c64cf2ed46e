use Rattle.cr_statement.proofs.Told.{told_is, judged_is_true}
use Rattle.cr_statement.proofs.laws.true_answers_are_judged.Goals as goal

pub returns-clause-alone : goal.returns-clause-alone
returns-clause-alone c source tokens r m true = told_is source tokens r m true.read true.syntax true.outside true.limit

pub returns-clause-holds : goal.returns-clause-holds
returns-clause-holds c source tokens r a = judged_is_true source tokens r a
