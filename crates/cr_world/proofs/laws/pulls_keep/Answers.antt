use Rattle.cr_world.proofs.Keeping.{pull_keeps, incremental_pull_keeps}
use Rattle.cr_world.proofs.laws.pulls_keep.Goals as goal

pub returns : goal.returns
returns g c = record { all = λ l k. pull_keeps l k; since = λ l k. incremental_pull_keeps l k }
