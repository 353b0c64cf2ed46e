use Rattle.cr_world.proofs.Running.{run_converges, rows_converge}
use Rattle.cr_world.proofs.laws.replicas_that_held_the_same_answer_the_same.Goals as goal

pub returns : goal.returns
returns g c = record { statements = λ l law k w cs rs run. run_converges l k law w cs rs run; rows = λ l k w cs rs run. rows_converge l k w cs rs run }
