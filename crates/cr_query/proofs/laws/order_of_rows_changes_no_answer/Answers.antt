use Rattle.cr_query.proofs.QueryLaws.{answer_same}
use Rattle.cr_query.proofs.laws.order_of_rows_changes_no_answer.Goals as goal

pub returns : goal.returns
returns g c = λ m q tables more law same. answer_same m law q tables more same
