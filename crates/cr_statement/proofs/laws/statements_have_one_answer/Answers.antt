use Rattle.cr_tree.proofs.Single.{one_answer}
use Rattle.cr_statement.specs.Statements as language
use Rattle.cr_statement.specs.Whole as reading
use Rattle.cr_statement.proofs.Whole.{statement_of}
use Rattle.cr_statement.proofs.laws.statements_have_one_answer.Goals as goal

pub returns : goal.returns
returns c = one_answer language.statement reading.statement statement_of
