use Rattle.cr_value.proofs.ValueLaws.{collation_total}
use Rattle.cr_value.proofs.laws.collations_are_total_preorders.Goals as goal

pub returns : goal.returns
returns c = collation_total
