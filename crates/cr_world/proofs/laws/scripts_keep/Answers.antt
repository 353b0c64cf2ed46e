use Rattle.cr_world.proofs.Keeping.{script_keeps}
use Rattle.cr_world.proofs.laws.scripts_keep.Goals as goal

pub returns : goal.returns
returns g c = λ l k w text x m h. script_keeps l k w text x m h
