use Rattle.cr_lex.proofs.Undoubling.{come_off}
use Rattle.cr_lex.proofs.laws.quotes_come_off.Goals as goal

pub returns : goal.returns
returns c = come_off
