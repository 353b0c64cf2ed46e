use Rattle.cr_world.proofs.Alike.{sessions_agree}
use Rattle.cr_world.proofs.laws.sessions_that_show_the_same_answer_the_same.Goals as goal

pub returns : goal.returns
returns g c = λ l k law host st new params s r t ms ns. sessions_agree l law host params s st new r t ms ns
