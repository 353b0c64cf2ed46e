use Rattle.cr_tree.specs.Reading.{whole}
use Rattle.cr_tree.specs.Language as language
use Rattle.cr_tree.proofs.Judged.{expressions}
use Rattle.cr_tree.proofs.Single.{one_answer}
use Rattle.cr_tree.proofs.laws.expressions_have_one_answer.Goals as goal

pub returns : goal.returns
returns c = one_answer language.expr whole expressions
