use Rattle.cr_query.proofs.PlanLaws.{answer_gives}
use Rattle.cr_query.proofs.laws.lawful_source_changes_no_answer.Goals as goal

pub returns : goal.returns
returns g c = λ m q j meets rows got law safe one inner none gives. answer_gives m law safe q j meets rows got one inner none gives
