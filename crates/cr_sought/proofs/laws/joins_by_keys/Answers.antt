use Rattle.cr_sought.proofs.Joins.{joins_by_keys}
use Rattle.cr_sought.proofs.laws.joins_by_keys.Goals as goal

pub returns : goal.returns
returns c = joins_by_keys
