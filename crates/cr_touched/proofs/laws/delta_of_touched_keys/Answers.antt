use Rattle.cr_touched.proofs.Touches.{delta_of_touched}
use Rattle.cr_touched.proofs.laws.delta_of_touched_keys.Goals as goal

pub returns : goal.returns
returns g = delta_of_touched
