use Rattle.cr_fit.proofs.Fitting.{created_are_new}
use Rattle.cr_fit.proofs.laws.created_tables_are_new.Goals as goal

pub returns : goal.returns
returns c = created_are_new
