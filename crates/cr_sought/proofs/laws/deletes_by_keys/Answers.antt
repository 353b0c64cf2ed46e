use Rattle.cr_sought.proofs.Writes.{deletes_by_keys}
use Rattle.cr_sought.proofs.laws.deletes_by_keys.Goals as goal

pub returns : goal.returns
returns g c = deletes_by_keys
