use Rattle.cr_sought.proofs.Writes.{updates_by_keys}
use Rattle.cr_sought.proofs.laws.updates_by_keys.Goals as goal

pub returns : goal.returns
returns g c = updates_by_keys
