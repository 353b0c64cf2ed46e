use Rattle.cr_language.proofs.Hiding.{change_no_answer}
use Rattle.cr_language.proofs.laws.unreadable_columns_change_no_answer.Goals as goal

pub returns : goal.returns
returns c = change_no_answer
