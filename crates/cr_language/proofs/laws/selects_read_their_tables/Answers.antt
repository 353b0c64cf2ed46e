use Rattle.cr_language.proofs.Tables.{read_their_tables}
use Rattle.cr_language.proofs.laws.selects_read_their_tables.Goals as goal

pub returns : goal.returns
returns c = read_their_tables
