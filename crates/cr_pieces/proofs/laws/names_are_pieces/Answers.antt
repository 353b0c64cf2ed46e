use Rattle.cr_pieces.proofs.Quoted.{name_piece}
use Rattle.cr_pieces.proofs.laws.names_are_pieces.Goals as goal

pub returns : goal.returns
returns c = name_piece
