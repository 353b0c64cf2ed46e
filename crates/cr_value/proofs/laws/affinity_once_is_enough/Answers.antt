use Rattle.cr_value.proofs.ValueLaws.{applied_twice}
use Rattle.cr_value.proofs.laws.affinity_once_is_enough.Goals as goal

pub returns : goal.returns
returns c = applied_twice
