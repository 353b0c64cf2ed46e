use Rattle.cr_world.proofs.Claims.{blind}
use Rattle.cr_world.proofs.laws.hidden_columns_change_no_answer.Goals as goal

pub returns : goal.returns
returns g c = λ l k law. blind l k law
