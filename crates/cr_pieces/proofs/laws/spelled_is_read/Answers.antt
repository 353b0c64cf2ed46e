use Rattle.cr_pieces.proofs.Spelled.{spelled_is_read}
use Rattle.cr_pieces.proofs.laws.spelled_is_read.Goals as goal

pub returns : goal.returns
returns c = spelled_is_read
