use Rattle.cr_touched.proofs.NewlyKept.{of_their_rows_alone}
use Rattle.cr_touched.proofs.laws.newly_kept_of_their_rows.Goals as goal

pub returns : goal.returns
returns g = of_their_rows_alone
