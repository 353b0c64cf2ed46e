use Rattle.cr_language.proofs.Hiding.{only_readable}
use Rattle.cr_language.proofs.laws.only_readable_columns_stand.Goals as goal

pub returns : goal.returns
returns c = only_readable
