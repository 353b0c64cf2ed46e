use Rattle.cr_pieces.proofs.Written.{read}
use Rattle.cr_pieces.proofs.laws.written_is_read.Goals as goal

pub returns : goal.returns
returns c = read
