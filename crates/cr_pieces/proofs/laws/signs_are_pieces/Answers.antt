use Rattle.cr_pieces.proofs.Signs.{sign_piece}
use Rattle.cr_pieces.proofs.laws.signs_are_pieces.Goals as goal

pub returns : goal.returns
returns c = sign_piece
