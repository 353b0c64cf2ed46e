use Rattle.cr_pieces.proofs.Written.{read_one_way}
use Rattle.cr_pieces.proofs.laws.written_is_read_one_way.Goals as goal

pub returns : goal.returns
returns c = read_one_way
