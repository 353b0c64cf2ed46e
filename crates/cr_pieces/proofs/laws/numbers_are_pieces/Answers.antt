use Rattle.cr_pieces.proofs.Digits.{number_piece}
use Rattle.cr_pieces.proofs.laws.numbers_are_pieces.Goals as goal

pub returns : goal.returns
returns c = number_piece
