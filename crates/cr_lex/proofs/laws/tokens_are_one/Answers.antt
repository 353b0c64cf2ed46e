use Rattle.cr_lex.proofs.Unique.{one_list}
use Rattle.cr_lex.proofs.laws.tokens_are_one.Goals as goal

pub returns : goal.returns
returns c = λ text some others a b. one_list text 0 some others a b
