use Rattle.cr_world.proofs.Claims.{joins}
use Rattle.cr_world.proofs.laws.takings_are_joins.Goals as goal

pub returns : goal.returns
returns g c = λ l k. joins l k
