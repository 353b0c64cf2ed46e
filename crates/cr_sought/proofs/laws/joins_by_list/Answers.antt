use Rattle.cr_sought.proofs.Lists.{joins_by_list}
use Rattle.cr_sought.proofs.laws.joins_by_list.Goals as goal

pub returns : goal.returns
returns c = joins_by_list
