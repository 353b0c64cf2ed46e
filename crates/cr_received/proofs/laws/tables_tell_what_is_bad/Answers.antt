use Rattle.cr_received.proofs.Bad.{told_by_tables}
use Rattle.cr_received.proofs.laws.tables_tell_what_is_bad.Goals as goal

pub returns : goal.returns
returns c = told_by_tables
