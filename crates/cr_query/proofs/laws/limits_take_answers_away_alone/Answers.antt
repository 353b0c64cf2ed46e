use Rattle.cr_query.proofs.Refining.{answer_refines}
use Rattle.cr_query.proofs.laws.limits_take_answers_away_alone.Goals as goal

pub returns : goal.returns
returns g c = λ sized exact q tables rows r e. answer_refines sized exact r q tables rows e
